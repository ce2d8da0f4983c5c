-- How the supply moves with the window, the budget and the giving end. Assumes nothing.
use Prim.Native.Nat.{ℕ, suc, ◌+◌, ◌-◌, ◌*◌, ◌/◌, ◌≤◌, ◌<◌}
use mathlib.Core.Path.{◌≡◌, ap}
use mathlib.Core.Logic.{⊎_elim}
use native.Mathlib.Nat.{le_trans, div-add-mod', div-mul-le_self, mul-le-mul_left}
use native.Mathlib.Omega.{arith}
use Rattle.lists.proofs.Over.{le_or_lt}
use Rattle.supply.specs.Supply.{supply}
use Rattle.supply.proofs.Steps.{never_falls, rises_slowly}
use Rattle.supply.proofs.Served.{served, served_parts, served_zero, supply_is_served, served_step, served_mono, served_mono_budget}

module _ (P Q E : ℕ) (pos : 1 ≤ Q) (qe : Q ≤ E) (ep : E ≤ P) where
  is_served : (x : ℕ) → supply P Q E x ≡ served P Q (x - (E - Q))
  is_served x = supply_is_served P Q E x qe (le_trans qe ep)

  pub supply_of_short : (x : ℕ) → x < E - Q → supply P Q E x ≡ 0
  supply_of_short x h =
      let none : x - (E - Q) ≡ 0 = omega arith in
      omega (arith, is_served x, ap (served P Q) none, served_zero P Q)

  -- The formula worked with one quotient, and its two products within the window.
  pub supply_worked : (x : ℕ) → supply P Q E x ≡ (x - (E - Q)) / P * Q + (x - (E - Q) - (x - (E - Q)) / P * P - (P - Q))
  supply_worked x = omega (arith, is_served x, served_parts P Q (x - (E - Q)), div-add-mod' (x - (E - Q)) P)

  pub whole_within : (z : ℕ) → (z / P * P ≤ z) × (z / P * Q ≤ z / P * P)
  whole_within z = omega (arith, div-mul-le_self z P, mul-le-mul_left (z / P) (le_trans qe ep))

  pub supply_of_no_tick : supply P Q E 0 ≡ 0
  supply_of_no_tick = let e : 0 - (E - Q) ≡ 0 = omega arith in omega (arith, is_served 0, ap (served P Q) e, served_zero P Q)

  supply_step : (x : ℕ) → (supply P Q E x ≤ supply P Q E (suc x)) × (supply P Q E (suc x) ≤ supply P Q E x + 1)
  supply_step x = ⊎_elim late early (le_or_lt (E - Q) x)
    where
      late : E - Q ≤ x → (supply P Q E x ≤ supply P Q E (suc x)) × (supply P Q E (suc x) ≤ supply P Q E x + 1)
      late h =
          let next : suc x - (E - Q) ≡ suc (x - (E - Q)) = omega arith in
          omega (arith, is_served x, is_served (suc x), ap (served P Q) next, served_step P Q (omega arith) (omega arith) (x - (E - Q)))

      early : x < E - Q → (supply P Q E x ≤ supply P Q E (suc x)) × (supply P Q E (suc x) ≤ supply P Q E x + 1)
      early h =
          let next : suc x - (E - Q) ≡ x - (E - Q) = omega arith in
          omega (arith, is_served x, is_served (suc x), ap (served P Q) next)

  -- A longer window holds no less.
  pub supply_mono : {x y : ℕ} → x ≤ y → supply P Q E x ≤ supply P Q E y
  supply_mono = never_falls (supply P Q E) (λ x. (supply_step x).0)

  -- A tick more holds at most one more.
  pub supply_rises_by_at_most_one : (x : ℕ) → supply P Q E (suc x) ≤ supply P Q E x + 1
  supply_rises_by_at_most_one x = (supply_step x).1

  -- So d ticks more hold at most d more.
  pub supply_rises_slowly : {x y : ℕ} → x ≤ y → supply P Q E y ≤ supply P Q E x + (y - x)
  supply_rises_slowly = rises_slowly (supply P Q E) supply_rises_by_at_most_one

  -- A window never holds more than its ticks.
  pub supply_within_window : (x : ℕ) → supply P Q E x ≤ x
  supply_within_window x = omega (arith, supply_rises_slowly {x = 0} {y = x} (omega arith), supply_of_no_tick)

  -- A later giving end, with the same budget, holds no more.
  pub supply_antitone_end : {F : ℕ} → E ≤ F → F ≤ P → (x : ℕ) → supply P Q F x ≤ supply P Q E x
  supply_antitone_end {F} ef fp x =
      let less : x - (F - Q) ≤ x - (E - Q) = omega arith in
      omega
      (arith, is_served x, supply_is_served P Q F x (omega arith) (omega arith), served_mono P Q (omega arith) (omega arith) less)

  -- So the smallest supply is that of a budget that may come anywhere in its period.
  pub supply_least_at_period : (x : ℕ) → supply P Q P x ≤ supply P Q E x
  supply_least_at_period = supply_antitone_end ep (omega arith)

  -- A larger budget with the same giving end holds no less.
  pub supply_mono_budget : {R : ℕ} → Q ≤ R → R ≤ E → (x : ℕ) → supply P Q E x ≤ supply P R E x
  supply_mono_budget {R} qr re x =
      let more : x - (E - Q) ≤ x - (E - R) = omega arith in
      omega (
        arith,
        is_served x,
        supply_is_served P R E x re (omega arith),
        served_mono P Q (omega arith) (omega arith) more,
        served_mono_budget P qr (x - (E - R)),
      )
