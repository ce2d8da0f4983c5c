-- Laws of the active period and its jobs: what it is the least solution of, and that every job is released within it.
-- Assumes nothing.
use Prim.Native.Nat.{ℕ, ◌+◌, ◌*◌, ◌≤◌, ◌<◌}
use native.Mathlib.Nat.{le_trans, mul-le-mul_right}
use native.Mathlib.Omega.{arith}
use mathlib.Core.Path.{◌≡◌, ap₂, ◌∙◌}
use mathlib.Core.Logic.{⊎_elim}
use mathlib.Core.Option.{some}
use lib.ListN.{get_or}
use Rattle.lists.proofs.Over.{le_or_lt, below_largest}
use Rattle.least.specs.Up.{up}
use Rattle.least.specs.Demand.{demand, total}
use Rattle.least.specs.Search.{Loads, IsLeast}
use Rattle.least.proofs.Up.{up_pos, up_is_least}
use Rattle.least.proofs.Demand.{demand_suc, loads_fewer}
use Rattle.least.proofs.LeastLaws.{least_means, least_strict}
use Rattle.table.specs.Limits.{horizon}
use Rattle.job.specs.View.{View, resources, held, overrun, cost}
use Rattle.job.specs.Ends.{active_period, jobs}
use Rattle.job.specs.Sound.{SoundView}

module _ (v : View) where
  -- X(s, l) ≤ X(s).
  pub held_at_most : (l : ℕ) → l < resources v → held v l ≤ overrun v
  unfolding overrun
  held_at_most l h = below_largest (held v) (resources v) l h

  -- Q ≤ Q + X, and X(s, l) with Q is at most that.
  pub budget_at_most : v.budget ≤ cost v
  unfolding cost
  budget_at_most = omega arith

  pub budget_and_held_at_most : (l : ℕ) → l < resources v → v.budget + held v l ≤ cost v
  unfolding cost
  budget_and_held_at_most l h = omega (arith, held_at_most l h)

  -- What the active period is the least solution of.
  abbrev pub active_total : ℕ → ℕ
  active_total = total v.periods v.costs (v.place + 1) v.blocking

module _ (v : View) (sv : SoundView v) where
  pub period_pos : 1 ≤ v.period
  period_pos = le_trans sv.budget_pos (le_trans (budget_at_most v) sv.fits)

  pub higher_loads : Loads v.periods v.costs v.place
  higher_loads = loads_fewer v.place sv.fit.loads (omega arith)

  -- B, the higher subsystems, and its own jobs.
  pub active_total_lem : (x : ℕ) → active_total v x ≡ v.blocking + demand v.periods v.costs v.place x + up x v.period * cost v
  unfolding total
  active_total_lem x =
      let own : up x (get_or v.periods v.place 0) * get_or v.costs v.place 0 ≡ up x v.period * cost v = ap₂ (λ (p c : ℕ). up x p * c) sv.own_period sv.own_cost in
      omega (arith, demand_suc v.periods v.costs v.place x)

  -- B and one job of its own are always among it.
  pub active_floor : (x : ℕ) → 1 ≤ x → v.blocking + cost v ≤ active_total v x
  active_floor x h =
      let one : 1 * cost v ≤ up x v.period * cost v = mul-le-mul_right (cost v) (up_pos x v.period period_pos h) in
      omega (arith, active_total_lem x)

  pub active_starts : 1 ≤ active_total v 1
  active_starts = omega (arith, active_floor 1 (omega arith), sv.budget_pos, budget_at_most v)

  module _ {active : ℕ} (is : active_period v ≡ some active) where
    active_is_least : IsLeast (active_total v) active
    unfolding active_period
    active_is_least = least_strict v.periods v.costs (v.place + 1) v.blocking horizon sv.fit.loads active_starts is

    pub active_from : 1 ≤ active
    active_from = active_is_least.from

    pub active_within : active ≤ horizon
    unfolding active_period
    active_within = (least_means v.periods v.costs (v.place + 1) v.blocking horizon is).within

    -- Its length by its parts.
    pub active_parts : active ≡ v.blocking + demand v.periods v.costs v.place active + jobs v active * cost v
    unfolding jobs
    active_parts = active_is_least.solution ∙ active_total_lem active

    -- Before its end there is more to do than time has passed.
    pub active_before : (y : ℕ) → 1 ≤ y → y < active → y < v.blocking + demand v.periods v.costs v.place y + up y v.period * cost v
    active_before y l u = omega (arith, active_is_least.before y l u, active_total_lem y)

    -- There is a job.
    pub some_job : 1 ≤ jobs v active
    unfolding jobs
    some_job = up_pos active v.period period_pos active_from

    -- Every job is released before the end.
    pub released_within : (k : ℕ) → k < jobs v active → k * v.period < active
    unfolding jobs
    released_within k h =
        ⊎_elim (λ (u : active ≤ k * v.period). absurd (omega (arith, up_is_least active v.period k period_pos u)))
        (λ (u : k * v.period < active). u)
        (le_or_lt active (k * v.period))
