-- Laws of a running largest, and of the first place where a range is at its largest. Assumes nothing.
use Prim.Native.Nat.{ℕ, ◌+◌, ◌≤◌, ◌<◌, max}
use native.Mathlib.Nat.{max-eq_left, max-eq_right, le_of_lt}
use native.Mathlib.Omega.{arith}
use mathlib.Core.Path.{◌≡◌, refl, sym, ap₂, ◌∙◌}
use mathlib.Core.Bool.{Bool}
use mathlib.Core.Logic.{⊎_elim}
use mathlib.Core.Option.{Option, none, some}
use lib.Dec.{eqb}
use borrow.Author.Tests.{eqb-false}
use Rattle.lists.specs.Range.{largest_to, first_such}
use Rattle.lists.proofs.First.{IsFirstSuch, first_such_means, first_such_none}
use Rattle.lists.proofs.Over.{largest_to_suc, below_largest, largest_reached}

-- The largest so far, and one more value.
pub largest_step : (f : ℕ → ℕ) (n : ℕ) {b v r : ℕ} → b ≡ largest_to f n → v ≡ f n → r ≡ max b v → r ≡ largest_to f (n + 1)
largest_step f n e q h = h ∙ ap₂ max e q ∙ sym (largest_to_suc f n)

-- Whether f is at its largest at i.
abbrev pub at_largest : (ℕ → ℕ) → ℕ → ℕ → Bool
at_largest f n i = eqb (f i) (largest_to f n)

module _ (f : ℕ → ℕ) where
  pub largest_new : (n : ℕ) → largest_to f n < f n → largest_to f (n + 1) ≡ f n
  largest_new n h = largest_to_suc f n ∙ max-eq_right (le_of_lt h)

  pub largest_old : (n : ℕ) → f n ≤ largest_to f n → largest_to f (n + 1) ≡ largest_to f n
  largest_old n h = largest_to_suc f n ∙ max-eq_left h

  -- A range that is not empty has a first place where f is at its largest.
  pub first_largest_lem : (n : ℕ) → 0 < n → (x : ℕ) × IsFirstSuch (at_largest f n) n 0 x
  first_largest_lem n h = go (first_such (at_largest f n) n 0) refl
    where
      reached : (i : ℕ) × (i < n) × (f i ≡ largest_to f n)
      reached =
          ⊎_elim (λ (z : largest_to f n ≡ 0). (0, h, omega (arith, below_largest f n 0 h)))
          (λ (r : (i : ℕ) × (i < n) × (f i ≡ largest_to f n)). r)
          (largest_reached f n)

      go : (o : Option ℕ) → first_such (at_largest f n) n 0 ≡ o → (x : ℕ) × IsFirstSuch (at_largest f n) n 0 x
      go (some x) e = (x, first_such_means (at_largest f n) n 0 x e)
      go none e =
          let i = reached.0 in
          absurd (eqb-false _ _ (first_such_none (at_largest f n) n 0 e i (omega arith) (omega (arith, reached.1))) reached.2)
