-- Laws of a load that has fallen behind: how often it must ask again to be ahead, and that a load without a free tick never is.
-- Assumes nothing.
use Prim.Native.Nat.{ℕ, ◌+◌, ◌-◌, ◌*◌, ◌^◌, ◌≤◌, ◌<◌}
use native.Mathlib.Nat.{mul-add, mul-le-mul_right, mul-le-mul, lt_of_le_of_lt}
use native.Mathlib.Omega.{arith}
use mathlib.Core.Path.{◌≡◌, refl, sym, ap, ap₂, ◌∙◌}
use mathlib.Core.Logic.{⊎_elim}
use mathlib.Core.List.{List}
use lib.Dec.{lit<}
use lib.ListN.{get_or, set, length-set}
use Rattle.lists.proofs.Over.{le_or_lt}
use Rattle.least.specs.Up.{up}
use Rattle.least.specs.Search.{reach}
use Rattle.search.specs.After.{Ahead, Behind, CaughtUp}
use Rattle.least.proofs.Up.{up_holds, up_is_tight, up_is_least, up_at_most}

module _ (ends : List ℕ) (t x period cost free bound : ℕ) (b : Behind (get_or ends t 0) x period cost free bound) where
  abbrev end : ℕ
  end = get_or ends t 0

  -- It must ask at least once.
  at_least_once : (p : ℕ) → Ahead end x period cost p → 1 ≤ p
  at_least_once p a =
      ⊎_elim (λ (h : 1 ≤ p). h)
      (λ (h : p < 1).
      let none : p ≡ 0 = omega arith in
      absurd (omega (arith, b.late, a, ap (λ (k : ℕ). k * cost) none, ap (λ (k : ℕ). k * period) none)))
      (le_or_lt 1 p)

  -- Once is enough.
  pub once : x - end ≤ free → CaughtUp ends t x period cost bound (set ends t (end + period)) (x + cost)
  once h =
      record {
        least = λ _. (1, ap (λ (e : ℕ). set ends t e) (omega arith), omega arith, omega (arith, b.parts), at_least_once);
        too_much = λ u p a. omega (arith, mul-le-mul_right cost (at_least_once p a));
        same_length = length-set ends t (end + period);
      }

  -- A period is its cost and its free ticks.
  by_parts : (k : ℕ) → k * period ≡ k * free + k * cost
  by_parts k = ap (λ (y : ℕ). k * y) (sym b.parts) ∙ mul-add k free cost

  -- Without a free tick it is never ahead.
  never_ahead : free ≡ 0 → (p : ℕ) → Ahead end x period cost p → ⊥
  never_ahead none p a = omega (arith, b.late, a, by_parts p, ap (λ (k : ℕ). p * k) none)

  pub never_small : free ≡ 0 → bound < reach
  never_small none = ⊎_elim (λ (u : bound < reach). u) (λ u. absurd (never_ahead none u.0 u.1)) b.within

  pub never : free ≡ 0 → CaughtUp ends t x period cost bound ends reach
  never none =
      let small = never_small none in
      record { least = λ u. absurd (omega arith); too_much = λ u p a. absurd (never_ahead none p a); same_length = refl }

  module _ (some : 1 ≤ free) where
    abbrev times : ℕ
    times = up (x - end) free

    ahead : Ahead end x period cost times
    ahead = omega (arith, b.late, by_parts times, up_holds (x - end) free some)

    times_least : (p : ℕ) → Ahead end x period cost p → times ≤ p
    times_least p a = up_is_least (x - end) free p some (omega (arith, a, by_parts p))

    -- Where it catches up within reach, this does.
    least_asked : (p : ℕ) → Ahead end x period cost p → x + times * cost ≤ x + p * cost
    least_asked p a = omega (arith, mul-le-mul_right cost (times_least p a))

    pub in_reach : x + times * cost ≤ bound → x + times * cost < reach
    in_reach h =
        ⊎_elim (λ (u : bound < reach). omega arith) (λ u. omega (arith, least_asked u.0 u.1, u.2)) b.within

    pub bound_small : bound < x + times * cost → bound < reach
    bound_small h =
        ⊎_elim (λ (u : bound < reach). u) (λ u. omega (arith, least_asked u.0 u.1, u.2)) b.within

    -- Products fit.
    times_small : times < 2 ^ 25
    times_small = omega (arith, b.small, up_at_most (x - end) free some)

    pub costs_small : times * cost < 2 ^ 45
    costs_small =
        lt_of_le_of_lt (mul-le-mul {n₂ = 33554431} {m₂ = 1048575} (omega (arith, times_small)) (omega (arith, b.parts, b.period_small))) (lit< {m = 33554431 * 1048575} {n = 2 ^ 45} tt)

    pub ends_small : x + times * cost < reach → end + times * period < 2 ^ 32
    ends_small h =
        omega (arith, b.late, b.small, b.parts, b.period_small, by_parts times, up_is_tight (x - end) free some)

    -- It asks as often as it takes.
    pub as_often : x + times * cost ≤ bound → CaughtUp ends t x period cost bound (set ends t (end + times * period)) (x + times * cost)
    as_often h =
        record {
          least = λ _. (times, refl, refl, ahead, times_least);
          too_much = λ u p a. absurd (omega arith);
          same_length = length-set ends t (end + times * period);
        }

    -- Where that is too much, no number of times is within the bound.
    pub out_of_bound : bound < x + times * cost → CaughtUp ends t x period cost bound ends reach
    out_of_bound h =
        let small = bound_small h in
        record {
          least = λ u. absurd (omega arith);
          too_much = λ u p a. omega (arith, least_asked p a);
          same_length = refl;
        }

    -- As the code works it out, which asks q times: what there is then to do, and that it fits as the end that moves on does.
    module _ {q wide_x wide_q wide_cost : ℕ} (eq : q ≡ times) (ex : wide_x ≡ x) (ew : wide_q ≡ q) (ec : wide_cost ≡ cost) where
      pub reached_is : wide_x + wide_q * wide_cost ≡ x + times * cost
      reached_is = ap₂ ◌+◌ ex (ap₂ ◌*◌ (ew ∙ eq) ec)

      pub moves_on : wide_x + wide_q * wide_cost ≤ bound → (wide_x + wide_q * wide_cost < reach) × (end + q * period < 2 ^ 32)
      moves_on h =
          let reachable = in_reach (omega (arith, h, reached_is)) in
          (omega (arith, reachable, reached_is), omega (arith, ends_small reachable, ap (λ (k : ℕ). k * period) eq))
