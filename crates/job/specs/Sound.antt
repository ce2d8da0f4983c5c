-- What sound interfaces give for the view of one subsystem, and what is known of its jobs: the facts that steps 7 to 11 rest on.
-- Assumes nothing.
use Rattle.std.specs.Prelude.{ℕ, ◌+◌, ◌^◌, ◌≤◌, ◌<◌, ◌≡◌, List, length, get_or}
use Rattle.std.proofs.Math.Option.{none, some}
use Rattle.least.specs.Demand.{total}
use Rattle.least.specs.Search.{IsLeast}
use Rattle.search.specs.After.{Fit, EndsAt}
use Rattle.table.specs.Limits.{most, horizon}
use Rattle.job.specs.View.{View, resources, held, ceiling, cost}
use Rattle.job.specs.Ends.{active_period, jobs, ahead}

-- What sound interfaces (crate `outer`) come to for the view of one subsystem.
pub record SoundView (v : View) : Type 0 where
  pub few : v.place < most
  pub fit : Fit v.periods v.costs (v.place + 1)
  pub own_period : get_or v.periods v.place 0 ≡ v.period
  pub own_cost : get_or v.costs v.place 0 ≡ cost v
  pub budget_pos : 1 ≤ v.budget
  pub fits : cost v ≤ v.period
  pub period_small : v.period < 2 ^ 20
  pub blocking_small : v.blocking < 2 ^ 20
  pub few_resources : resources v ≤ most
  pub same_resources : length v.ceilings ≡ resources v
  pub ceiling_reaches : (l : ℕ) → l < resources v → 0 < held v l → ceiling v l ≤ v.place

-- Job k is one of the jobs of the active period.
pub record Counted (v : View) (k : ℕ) : Type 0 where
  pub active : ℕ
  pub is_active : active_period v ≡ some active
  pub among : k < jobs v active

-- `first` is the first budget end, within the horizon, with the ends of the higher subsystems' periods begun by then.
pub record FirstEnd (v : View) (ends : List ℕ) (first : ℕ) : Type 0 where
  pub is_least : IsLeast (total v.periods v.costs v.place (ahead v 0)) first
  pub within : first ≤ horizon
  pub with_end : most ≤ length ends
  pub ends_at : EndsAt v.periods ends v.place first

-- r is the active period where it is at most the horizon; else there is none.
pub record Active (v : View) (r : ℕ) : Type 0 where
  pub at : r ≤ horizon → active_period v ≡ some r
  pub beyond : horizon < r → active_period v ≡ none
