-- The published bound is the supply. Assumes nothing.
use Prim.Native.Nat.{ℕ, zero, suc, ◌+◌, ◌-◌, ◌*◌, ◌/◌, ◌%◌, ◌≤◌, ◌<◌}
use mathlib.Core.Path.{◌≡◌, refl, sym, ◌∙◌, ap}
use mathlib.Core.Bool.{Bool, true, false, cond, ◌&&◌}
use mathlib.Core.Logic.{⊎_elim}
use native.Mathlib.Nat.{div-add-mod', mod-lt, suc-mul, add-mul, mul-add, div-eq_of_lt}
use native.Mathlib.Omega.{arith}
use lib.Dec.{leb}
use lib.Arith.{digits_div}
use borrow.Author.Tests.{leb-true, leb-false, le-leb}
use Rattle.lists.proofs.Over.{le_or_lt}
use Rattle.supply.specs.Supply.{supply}
use Rattle.supply.specs.Published.{published, published_index, in_interval}
use Rattle.supply.proofs.Served.{served_zero, served_at_end, supply_is_served}

module _ (P Q E : ℕ) (pos : 1 ≤ Q) (qe : Q ≤ E) (ep : E ≤ P) where
  -- A window of E − Q ticks, of m whole periods and of r ticks more, 1 ≤ r ≤ P, has the index m + 1.
  index_of_whole : (m r t : ℕ) → 0 < r → r ≤ P → t ≡ E - Q + (m * P + r) → published_index P Q E t ≡ suc m
  unfolding published_index
  index_of_whole m r t some_left within e =
      let rounded : t - (E - Q) + (P - 1) ≡ suc m * P + (r - 1) = omega (arith, suc-mul m P) in
      let quotient : (t - (E - Q) + (P - 1)) / P ≡ suc m = ap (λ (n : ℕ). n / P) rounded ∙ digits_div (suc m) (omega arith) in
      rw quotient (omega arith)

  index_of_short : (t : ℕ) → t ≤ E - Q → published_index P Q E t ≡ 1
  unfolding published_index
  index_of_short t h =
      let rounded : t - (E - Q) + (P - 1) ≡ P - 1 = omega arith in
      let quotient : (t - (E - Q) + (P - 1)) / P ≡ 0 = ap (λ (n : ℕ). n / P) rounded ∙ div-eq_of_lt (omega arith) in
      rw quotient (omega arith)

  -- Its value at that index: the interval's lower end is where the r ticks exceed the idle ones.
  value_of_whole : (m r t : ℕ) → r ≤ P → t ≡ E - Q + (m * P + r)
      → cond (in_interval P Q E (suc m) t) (t + (P - E) - (suc m + 1) * (P - Q)) ((suc m - 1) * Q) ≡ m * Q + (r - (P - Q))
  unfolding in_interval
  value_of_whole m r t within e = rw (le-leb t (suc m * P + E - Q) below) (go (leb (suc m * P + E - 2 * Q) t) refl)
    where
      below : t ≤ suc m * P + E - Q
      below = omega (arith, suc-mul m P)

      parts : m * P ≡ m * Q + m * (P - Q)
      parts = let whole : Q + (P - Q) ≡ P = omega arith in sym (ap (λ (n : ℕ). m * n) whole) ∙ mul-add m Q (P - Q)

      rise : (suc m + 1) * (P - Q) ≡ m * (P - Q) + 2 * (P - Q)
      rise = omega (arith, add-mul (suc m) 1 (P - Q), suc-mul m (P - Q))

      go : (b : Bool) → leb (suc m * P + E - 2 * Q) t ≡ b
          → cond (b && true) (t + (P - E) - (suc m + 1) * (P - Q)) ((suc m - 1) * Q) ≡ m * Q + (r - (P - Q))
      go true h =
          let above : suc m * P + E - 2 * Q ≤ t = leb-true _ _ h in
          omega (arith, parts, rise, suc-mul m P)
      go false h =
          let under : t < suc m * P + E - 2 * Q = leb-false _ _ h in
          let before : suc m - 1 ≡ m = omega arith in
          omega (arith, ap (λ (n : ℕ). n * Q) before, suc-mul m P)

  -- A window that is over before E − Q ticks have passed holds nothing by either case.
  value_of_short : (t : ℕ) → t ≤ E - Q → (b : Bool) → cond b (t + (P - E) - (1 + 1) * (P - Q)) ((1 - 1) * Q) ≡ 0
  value_of_short t h true = omega arith
  value_of_short t h false = omega arith

  published_of_short : (t : ℕ) → t ≤ E - Q → published P Q E t ≡ supply P Q E t
  unfolding published
  published_of_short t h =
      let none : t - (E - Q) ≡ 0 = omega arith in
      rw (index_of_short t h, supply_is_served P Q E t qe (omega arith), none, served_zero)
      (value_of_short t h (in_interval P Q E 1 t))

  published_of_whole : (m r t : ℕ) → 0 < r → r ≤ P → t ≡ E - Q + (m * P + r) → published P Q E t ≡ supply P Q E t
  unfolding published
  published_of_whole m r t some_left within size =
      let left : t - (E - Q) ≡ m * P + r = omega arith in
      rw (
        index_of_whole m r t some_left within size,
        value_of_whole m r t within size,
        supply_is_served P Q E t qe (omega arith),
        left,
        served_at_end P Q (omega arith) (omega arith) m r within,
      )

  -- Source 002's bound, with its period, budget and deadline at P, Q and E, is the supply of step 4.
  pub published_is_supply : (t : ℕ) → published P Q E t ≡ supply P Q E t
  published_is_supply t = ⊎_elim (published_of_short t) long (le_or_lt t (E - Q))
    where
      long : E - Q < t → published P Q E t ≡ supply P Q E t
      long h =
          let z : ℕ = t - (E - Q) - 1 in
          let below : z % P < P = mod-lt z {m = P} (omega arith) in
          published_of_whole (z / P) (z % P + 1) t (omega arith) (omega arith) (omega (arith, div-add-mod' z P))

  -- From the interval's lower end on, no difference of the bound is cut off at 0: read over whole numbers of either sign
  -- it is the same.
  pub published_never_cut : (k t : ℕ) → 1 ≤ k → k * P + E - 2 * Q ≤ t → (2 * Q ≤ k * P + E) × ((k + 1) * (P - Q) ≤ t + (P - E))
  published_never_cut (suc m) t one lower =
      let whole : Q + (P - Q) ≡ P = omega arith in
      let parts : m * P ≡ m * Q + m * (P - Q) = sym (ap (λ (n : ℕ). m * n) whole) ∙ mul-add m Q (P - Q) in
      omega (arith, add-mul (suc m) 1 (P - Q), suc-mul m (P - Q), suc-mul m P)
  published_never_cut zero t one lower = absurd (omega arith)
