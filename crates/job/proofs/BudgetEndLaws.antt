-- Laws of budget ends (step 9): every job of an active period has one, none is above the active period, each lies after the
-- job's release, a job's search may start at what it waits for besides higher subsystems, and the next job's where this one ended,
-- and Q + X further on. Assumes nothing.
use Prim.Native.Nat.{ℕ, suc, ◌+◌, ◌-◌, ◌*◌, ◌≤◌, ◌<◌}
use native.Mathlib.Nat.{mul-le-mul_right, suc-mul, mul-le-mul_left}
use native.Mathlib.Numerals.{add-one}
use native.Mathlib.Omega.{arith}
use mathlib.Core.Path.{◌≡◌, refl, sym, ap, ◌∙◌}
use mathlib.Core.Logic.{⊎_elim}
use mathlib.Core.Option.{some}
use lib.ListN.{get_or}
use Rattle.lists.proofs.Over.{le_or_lt}
use Rattle.least.specs.Up.{up}
use Rattle.least.specs.Demand.{demand, total}
use Rattle.least.specs.Least.{least}
use Rattle.least.specs.Search.{Stands, ComesDown, IsLeast}
use Rattle.least.proofs.Up.{up_is_least}
use Rattle.least.proofs.Demand.{demand_mono}
use Rattle.least.proofs.Search.{stands_at_floor, stands_below, least_stands, least_is_one, stands_warm}
use Rattle.least.proofs.LeastLaws.{least_below}
use Rattle.table.specs.Limits.{horizon}
use Rattle.outer.specs.Blocking.{number_or}
use Rattle.job.specs.View.{View, cost}
use Rattle.job.specs.Ends.{jobs, ahead, budget_end}
use Rattle.job.specs.Sound.{SoundView, Counted}
use Rattle.job.proofs.ActiveLaws.{budget_at_most, period_pos, higher_loads, active_from, active_within, active_parts, active_before, released_within}

-- What the budget end of job k is the least solution of.
abbrev pub budget_total : View → ℕ → ℕ → ℕ
budget_total v k = total v.periods v.costs v.place (ahead v k)

module _ (v : View) where
  -- One job more is Q + X more.
  pub ahead_next : (k : ℕ) → ahead v (k + 1) ≡ ahead v k + cost v
  unfolding ahead
  ahead_next k = rw (add-one k) (omega (arith, suc-mul k (cost v)))

  pub ahead_holds_budget : (k : ℕ) → v.budget ≤ ahead v k
  unfolding ahead
  ahead_holds_budget k = omega arith

  pub budget_total_lem : (k x : ℕ) → budget_total v k x ≡ ahead v k + demand v.periods v.costs v.place x
  unfolding total
  budget_total_lem k x = refl

module _ (v : View) (sv : SoundView v) where
  pub budget_starts : (k : ℕ) → 1 ≤ budget_total v k 1
  budget_starts k = omega (arith, sv.budget_pos, ahead_holds_budget v k, budget_total_lem v k 1)

  -- A search for F(k) may start at what job k waits for besides higher subsystems.
  pub budget_floor : (k : ℕ) → Stands (budget_total v k) (ahead v k)
  budget_floor k =
      stands_at_floor (budget_total v k) (omega (arith, sv.budget_pos, ahead_holds_budget v k)) (λ y l. omega (arith, budget_total_lem v k y))

  -- Where `more` ticks more are to be done besides the higher subsystems, a search may start that much further on.
  pub stands_more :
      (a b more : ℕ) {end : ℕ} → b ≡ a + more → IsLeast (total v.periods v.costs v.place a) end →
      Stands (total v.periods v.costs v.place b) (end + more)
  unfolding total
  stands_more a b more {end} e i =
      stands_warm (total v.periods v.costs v.place a) (total v.periods v.costs v.place b) more
      (least_stands (total v.periods v.costs v.place a) i)
      (λ y h. omega (arith, e))
      (λ y h. omega (arith, e, i.solution, demand_mono v.periods v.costs v.place (higher_loads v sv) h))

  -- The next job's search may start Q + X after the end of job k's budget.
  pub stands_after : (k : ℕ) {end : ℕ} → IsLeast (budget_total v k) end → Stands (budget_total v (k + 1)) (end + cost v)
  stands_after k i = stands_more (ahead v k) (ahead v (k + 1)) (cost v) (ahead_next v k) i

  module _ {k : ℕ} (ct : Counted v k) where
    -- The jobs before k take less than the active period.
    pub jobs_before_within : k * get_or v.costs v.place 0 < ct.active
    jobs_before_within =
        omega (arith, ap (λ (c : ℕ). k * c) sv.own_cost, mul-le-mul_left k sv.fits, released_within v sv ct.is_active k ct.among)

    -- Up to its end, job k and those before it fit into the active period, with all that they may hold.
    pub jobs_fit : ahead v k + (cost v + demand v.periods v.costs v.place ct.active) ≤ ct.active + v.budget
    unfolding ahead
    jobs_fit =
        let most : suc k * cost v ≤ jobs v ct.active * cost v = mul-le-mul_right (cost v) ct.among in
        omega (arith, active_parts v sv ct.is_active, suc-mul k (cost v))

    budget_down : budget_total v k ct.active ≤ ct.active
    budget_down = omega (arith, jobs_fit, budget_at_most v, budget_total_lem v k ct.active)

    found : (z : ℕ) × (z ≤ ct.active) × (least v.periods v.costs v.place (ahead v k) horizon ≡ some z) × IsLeast (budget_total v k) z
    found =
        least_below v.periods v.costs v.place (ahead v k) horizon (higher_loads v sv) (budget_starts k) ct.active
        (active_from v sv ct.is_active)
        (active_within v sv ct.is_active)
        budget_down

    is_found : budget_end v k ≡ found.0
    unfolding budget_end
    is_found = ap (number_or 0) found.2

    -- F(k) exists within the horizon.
    pub budget_end_exists : least v.periods v.costs v.place (ahead v k) horizon ≡ some (budget_end v k)
    budget_end_exists = found.2 ∙ ap some (sym is_found)

    pub budget_end_is_least : IsLeast (budget_total v k) (budget_end v k)
    budget_end_is_least = rw is_found found.3

    -- F(k) ≤ L.
    pub budget_end_within : budget_end v k ≤ ct.active
    budget_end_within = rw is_found found.1

    -- F(k) by its parts.
    pub budget_end_parts : budget_end v k ≡ ahead v k + demand v.periods v.costs v.place (budget_end v k)
    budget_end_parts = budget_end_is_least.solution ∙ budget_total_lem v k (budget_end v k)

    -- Where a search for it may look, and what it finds.
    pub budget_comes_down : ComesDown (budget_total v k)
    budget_comes_down =
        record {
          top = ct.active;
          from = active_from v sv ct.is_active;
          within = omega (arith, active_within v sv ct.is_active);
          down = budget_down;
        }

    pub budget_found : {z : ℕ} → IsLeast (budget_total v k) z → z ≡ budget_end v k
    budget_found i = least_is_one (budget_total v k) i budget_end_is_least

    pub next_starts : Stands (budget_total v (k + 1)) (budget_end v k + cost v)
    next_starts = stands_after k budget_end_is_least

    -- After F(k), X ticks of the active period are left.
    pub last_leaves : budget_end v k + cost v ≤ ct.active + v.budget
    last_leaves =
        let early : ℕ = ct.active + v.budget - cost v in
        let room : v.budget ≤ early = omega (arith, jobs_fit, ahead_holds_budget v k) in
        let no_more : demand v.periods v.costs v.place early ≤ demand v.periods v.costs v.place ct.active = demand_mono v.periods v.costs v.place (higher_loads v sv) (omega (arith, budget_at_most v)) in
        let down : budget_total v k early ≤ early = omega (arith, budget_total_lem v k early, jobs_fit) in
        omega (arith, stands_below (budget_total v k) (least_stands (budget_total v k) budget_end_is_least) (omega (arith, room, sv.budget_pos)) down, room)

    -- Job k ends its budget after its release at k × P.
    pub released_before_end : k * v.period < budget_end v k
    unfolding ahead
    released_before_end =
        ⊎_elim (λ (h : budget_end v k ≤ k * v.period). absurd (early h)) (λ (h : k * v.period < budget_end v k). h)
        (le_or_lt (budget_end v k) (k * v.period))
      where
        early : budget_end v k ≤ k * v.period → ⊥
        early h =
            let few : up (budget_end v k) v.period * cost v ≤ k * cost v = mul-le-mul_right (cost v) (up_is_least (budget_end v k) v.period k (period_pos v sv) h) in
            omega (arith, active_before v sv ct.is_active (budget_end v k) budget_end_is_least.from (omega (arith, released_within v sv ct.is_active k ct.among)), budget_end_parts, sv.budget_pos)

-- F(k + 1) is at least Q + X after F(k).
pub budget_end_next : (v : View) → SoundView v → {k : ℕ} → Counted v k → Counted v (k + 1) → budget_end v k + cost v ≤ budget_end v (k + 1)
budget_end_next v sv {k} ct next =
    let i = budget_end_is_least v sv next in
    stands_below (budget_total v (k + 1)) (next_starts v sv ct) i.from (omega (arith, i.solution))
