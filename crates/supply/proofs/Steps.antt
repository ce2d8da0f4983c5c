-- A function of a number that moves by small steps: what one step does, any number of steps do. Assumes nothing.
use Prim.Native.Nat.{ℕ, zero, suc, ◌+◌, ◌-◌, ◌≤◌}
use mathlib.Core.Path.{◌≡◌, ap}
use native.Mathlib.Nat.{add-zero, add-suc}
use native.Mathlib.Omega.{arith}

module _ (f : ℕ → ℕ) where
  pub steps_never_fall : ((n : ℕ) → f n ≤ f (suc n)) → (a d : ℕ) → f a ≤ f (a + d)
  steps_never_fall up a zero = rw add-zero (omega arith)
  steps_never_fall up a (suc d) = rw add-suc (omega (arith, steps_never_fall up a d, up (a + d)))

  pub steps_rise_slowly : ((n : ℕ) → f (suc n) ≤ f n + 1) → (a d : ℕ) → f (a + d) ≤ f a + d
  steps_rise_slowly slow a zero = rw (add-zero a) (omega arith)
  steps_rise_slowly slow a (suc d) = rw (add-suc a d) (omega (arith, steps_rise_slowly slow a d, slow (a + d)))

  pub never_falls : ((n : ℕ) → f n ≤ f (suc n)) → {a b : ℕ} → a ≤ b → f a ≤ f b
  never_falls up {a} {b} h =
      let e : a + (b - a) ≡ b = omega arith in
      omega (arith, steps_never_fall up a (b - a), ap f e)

  pub rises_slowly : ((n : ℕ) → f (suc n) ≤ f n + 1) → {a b : ℕ} → a ≤ b → f b ≤ f a + (b - a)
  rises_slowly slow {a} {b} h =
      let e : a + (b - a) ≡ b = omega arith in
      omega (arith, steps_rise_slowly slow a (b - a), ap f e)
