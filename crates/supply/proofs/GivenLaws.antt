-- How many ticks of a window are given: windows side by side, and the periods of a way. Assumes nothing.
use Prim.Native.Nat.{ℕ, zero, suc, ◌+◌, ◌-◌, ◌*◌, ◌≤◌, ◌<◌}
use mathlib.Core.Path.{◌≡◌, refl, ap}
use mathlib.Core.Bool.{Bool, true, false, cond}
use mathlib.Core.Logic.{⊎_elim}
use native.Mathlib.Nat.{add-zero, add-suc, add_assoc, zero-add, suc-mul, zero-mul}
use native.Mathlib.Omega.{arith}
use Rattle.lists.specs.Range.{sum_to}
use Rattle.lists.proofs.Over.{le_or_lt}
use Rattle.supply.specs.Ways.{Way, tick_given, given_in, IsWay}

pub given_of_no_tick : (w : Way) (a : ℕ) → given_in w a 0 ≡ 0
unfolding given_in sum_to
given_of_no_tick w a = refl

pub given_suc : (w : Way) (a x : ℕ) → given_in w a (suc x) ≡ given_in w a x + tick_given w a x
unfolding given_in sum_to
given_suc w a x = refl

tick_moved : (w : Way) (a x i : ℕ) → tick_given w a (x + i) ≡ tick_given w (a + x) i
unfolding tick_given
tick_moved w a x i = rw add_assoc refl

tick_withheld : (w : Way) (a i : ℕ) → w (a + i) ≡ false → tick_given w a i ≡ 0
unfolding tick_given
tick_withheld w a i h = rw h refl

-- A window of x + y ticks is one of x ticks and, right behind it, one of y.
pub given_split : (w : Way) (a x y : ℕ) → given_in w a (x + y) ≡ given_in w a x + given_in w (a + x) y
given_split w a x zero = omega (arith, ap (given_in w a) (add-zero x), given_of_no_tick w (a + x))
given_split w a x (suc y) =
    omega (arith, ap (given_in w a) (add-suc x y), given_suc w a (x + y), given_suc w (a + x) y, given_split w a x y, tick_moved w a x y)

tick_at_most_one : (w : Way) (a i : ℕ) → tick_given w a i ≤ 1
unfolding tick_given
tick_at_most_one w a i = go (w (a + i))
  where
    go : (b : Bool) → cond b 1 0 ≤ 1
    go true = omega arith
    go false = omega arith

-- A window has no more given ticks than ticks.
pub given_at_most : (w : Way) (a x : ℕ) → given_in w a x ≤ x
given_at_most w a zero = omega (arith, given_of_no_tick w a)
given_at_most w a (suc x) = omega (arith, given_suc w a x, given_at_most w a x, tick_at_most_one w a x)

-- Where every tick is withheld, none is given.
pub given_nothing : (w : Way) (a x : ℕ) → ((i : ℕ) → i < x → w (a + i) ≡ false) → given_in w a x ≡ 0
given_nothing w a zero h = given_of_no_tick w a
given_nothing w a (suc x) h = omega (arith, given_suc w a x, given_nothing w a x (λ i l. h i (omega arith)), tick_withheld w a x (h x (omega arith)))

-- From tick 0 on, what is given before a tick, and what of a window is given, add up.
pub given_from_start : (w : Way) (a x : ℕ) → given_in w 0 (a + x) ≡ given_in w 0 a + given_in w a x
given_from_start w a x = omega (arith, given_split w 0 a x, ap (λ (b : ℕ). given_in w b x) (zero-add a))

module _ (P Q E : ℕ) (ep : E ≤ P) (w : Way) (isWay : IsWay P Q E w) where
  -- j whole periods give j times the budget.
  pub given_in_periods : (j : ℕ) → given_in w 0 (j * P) ≡ j * Q
  given_in_periods zero = omega (arith, ap (given_in w 0) (zero-mul P), given_of_no_tick w 0, zero-mul Q)
  given_in_periods (suc j) =
      omega (
        arith,
        ap (given_in w 0) (suc-mul j P),
        given_from_start w (j * P) P,
        given_in_periods j,
        isWay.budget j,
        suc-mul j Q,
      )

  nothing_late : (j r : ℕ) → E ≤ r → r ≤ P → given_in w (j * P + r) (P - r) ≡ 0
  nothing_late j r h l = given_nothing w (j * P + r) (P - r) late
    where
      late : (i : ℕ) → i < P - r → w (j * P + r + i) ≡ false
      late i k = rw add_assoc (isWay.early j (r + i) (omega arith) (omega arith))

  -- From a period's tick r on, at most the ticks that are left before E are given.
  pub given_to_period_end : (j r : ℕ) → r ≤ P → given_in w (j * P + r) (P - r) ≤ E - r
  given_to_period_end j r l = ⊎_elim past before (le_or_lt E r)
    where
      past : E ≤ r → given_in w (j * P + r) (P - r) ≤ E - r
      past h = omega (arith, nothing_late j r h l)

      before : r < E → given_in w (j * P + r) (P - r) ≤ E - r
      before h =
          let parts : P - r ≡ E - r + (P - E) = omega arith in
          let seam : j * P + r + (E - r) ≡ j * P + E = omega arith in
          omega (
            arith,
            ap (given_in w (j * P + r)) parts,
            given_split w (j * P + r) (E - r) (P - E),
            ap (λ (b : ℕ). given_in w b (P - E)) seam,
            nothing_late j E (omega arith) ep,
            given_at_most w (j * P + r) (E - r),
          )

  -- What of a period is given before its tick r: no more than the budget, and what is then still due of the budget
  -- fits between r and E.
  pub given_before : (j r : ℕ) → r ≤ P → (given_in w (j * P) r ≤ Q) × (Q ≤ given_in w (j * P) r + (E - r))
  given_before j r l =
      let whole : r + (P - r) ≡ P = omega arith in
      omega (
        arith,
        given_split w (j * P) r (P - r),
        ap (given_in w (j * P)) whole,
        isWay.budget j,
        given_to_period_end j r l,
      )
