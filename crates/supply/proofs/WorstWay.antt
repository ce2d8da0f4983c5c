-- A way of handing out with a window that holds no more than the supply: the first period gives its budget at once, every
-- later one as late as it may, and the window begins where the first budget ends. Assumes nothing.
use Prim.Native.Nat.{ℕ, zero, suc, ◌+◌, ◌-◌, ◌*◌, ◌≤◌, ◌<◌, min}
use mathlib.Core.Path.{◌≡◌, refl, ap}
use mathlib.Core.Bool.{Bool, true, false, cond}
use mathlib.Core.Logic.{⊎_elim}
use native.Mathlib.Nat.{add-zero, add-suc, zero-mul, suc-mul}
use native.Mathlib.Omega.{arith}
use lib.Dec.{ltb}
use borrow.Author.Tests.{ltb-true, ltb-false, le-ltb}
use Rattle.lists.proofs.Over.{le_or_lt}
use Rattle.supply.specs.Supply.{supply}
use Rattle.supply.specs.Ways.{Way, tick_given, given_in, IsWay}
use Rattle.supply.proofs.Served.{served, served_at, supply_is_served}
use Rattle.supply.proofs.SupplyLaws.{supply_of_no_tick, supply_mono, supply_rises_by_at_most_one}
use Rattle.supply.proofs.GivenLaws.{given_of_no_tick, given_suc}

-- How many of the ticks below n this way gives: the formula itself, from the end of the first budget on.
unfoldable pub worst_total : (P Q E n : ℕ) → ℕ
worst_total P Q E n = min n Q + supply P Q E (n - Q)

-- A tick is given where that total rises.
unfoldable pub worst_way : (P Q E : ℕ) → Way
worst_way P Q E n = ltb (worst_total P Q E n) (worst_total P Q E (suc n))

module _ (P Q E : ℕ) (pos : 1 ≤ Q) (qe : Q ≤ E) (ep : E ≤ P) where
  abbrev total : ℕ → ℕ
  total = worst_total P Q E

  total_step : (n : ℕ) → (total n ≤ total (suc n)) × (total (suc n) ≤ total n + 1)
  unfolding worst_total
  total_step n = ⊎_elim behind within (le_or_lt Q n)
    where
      behind : Q ≤ n → (total n ≤ total (suc n)) × (total (suc n) ≤ total n + 1)
      behind h =
          let next : suc n - Q ≡ suc (n - Q) = omega arith in
          omega (
            arith,
            ap (supply P Q E) next,
            supply_mono P Q E pos qe ep {x = n - Q} {y = suc (n - Q)} (omega arith),
            supply_rises_by_at_most_one P Q E pos qe ep (n - Q),
          )

      within : n < Q → (total n ≤ total (suc n)) × (total (suc n) ≤ total n + 1)
      within h = let next : suc n - Q ≡ n - Q = omega arith in omega (arith, ap (supply P Q E) next)

  tick_is_rise : (a i : ℕ) → tick_given (worst_way P Q E) a i + total (a + i) ≡ total (suc (a + i))
  unfolding worst_way tick_given
  tick_is_rise a i = go (ltb (total (a + i)) (total (suc (a + i)))) refl
    where
      go : (b : Bool) → ltb (total (a + i)) (total (suc (a + i))) ≡ b → cond b 1 0 + total (a + i) ≡ total (suc (a + i))
      go true e = let up : total (a + i) < total (suc (a + i)) = ltb-true _ _ e in omega (arith, total_step (a + i))
      go false e = let flat : total (suc (a + i)) ≤ total (a + i) = ltb-false _ _ e in omega (arith, total_step (a + i))

  given_is_rise : (a x : ℕ) → given_in (worst_way P Q E) a x + total a ≡ total (a + x)
  given_is_rise a zero = omega (arith, given_of_no_tick (worst_way P Q E) a, ap total (add-zero a))
  given_is_rise a (suc x) =
      omega (arith, given_suc (worst_way P Q E) a x, given_is_rise a x, tick_is_rise a x, ap total (add-suc a x))

  total_at_start : total 0 ≡ 0
  unfolding worst_total
  total_at_start = let first : 0 - Q ≡ 0 = omega arith in omega (arith, ap (supply P Q E) first, supply_of_no_tick P Q E pos qe ep)

  total_behind : (x : ℕ) → total (Q + x) ≡ Q + supply P Q E x
  unfolding worst_total
  total_behind x = let later : Q + x - Q ≡ x = omega arith in omega (arith, ap (supply P Q E) later)

  -- From E on, period j and all before it have given their budgets.
  total_late : (j i : ℕ) → E ≤ i → i ≤ P → total (j * P + i) ≡ suc j * Q
  total_late j i h l =
      let x : ℕ = E - Q + (j * P + (i - E)) in
      let place : j * P + i ≡ Q + x = omega arith in
      let left : x - (E - Q) ≡ j * P + (i - E) = omega arith in
      let idle : i - E - (P - Q) ≡ 0 = omega arith in
      omega (
        arith,
        ap total place,
        total_behind x,
        supply_is_served P Q E x qe (omega arith),
        ap (served P Q) left,
        served_at P Q j (i - E) (omega arith),
        suc-mul j Q,
      )

  total_periods : (j : ℕ) → total (j * P) ≡ j * Q
  total_periods zero = omega (arith, ap total (zero-mul P), total_at_start, zero-mul Q)
  total_periods (suc j) = omega (arith, ap total (suc-mul j P), total_late j P ep (omega arith))

  worst_early : (j i : ℕ) → E ≤ i → i < P → worst_way P Q E (j * P + i) ≡ false
  unfolding worst_way
  worst_early j i h l =
      let flat : total (suc (j * P + i)) ≤ total (j * P + i) =
      omega (arith, total_late j i h (omega arith), total_late j (suc i) (omega arith) l, ap total (add-suc (j * P) i)) in
      le-ltb _ _ flat

  pub worst_is_way : IsWay P Q E (worst_way P Q E)
  worst_is_way = record { budget = budget; early = worst_early }
    where
      budget : (j : ℕ) → given_in (worst_way P Q E) (j * P) P ≡ Q
      budget j = omega (arith, given_is_rise (j * P) P, total_periods j, total_late j P ep (omega arith), suc-mul j Q)

  -- Demand 3, the other half: this way's window from tick Q on holds exactly the supply.
  pub worst_window : (x : ℕ) → given_in (worst_way P Q E) Q x ≡ supply P Q E x
  worst_window x =
      omega (
        arith,
        given_is_rise Q x,
        total_behind x,
        total_behind 0,
        ap total (add-zero Q),
        supply_of_no_tick P Q E pos qe ep,
      )
