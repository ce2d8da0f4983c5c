-- What the code's own structs hold, in the words of steps 9 to 11: the view that slices and numbers make up, the best of a
-- range, a job, and the worst of the jobs. Assumes nothing.
use Rattle.std.specs.Prelude.{ℕ, ◌≤◌, List}
use Rattle.lists.specs.Range.{largest_to}
use Rattle.least.specs.Demand.{total}
use Rattle.least.specs.Search.{ComesDown}
use Rattle.search.specs.After.{afterwards, Waits}
use Rattle.job.specs.declared.Own.{Own}
use Rattle.job.specs.declared.Best.{Best}
use Rattle.job.specs.declared.Job.{Job}
use Rattle.job.specs.declared.Worst.{Worst}
use Rattle.job.specs.View.{View}
use Rattle.job.specs.Ends.{budget_end}
use Rattle.job.specs.Response.{first_at, job_response, job_resource, response, worst_job}

-- The view that lists of loads, holding times and ceilings and a subsystem's own numbers make up.
abbrev pub seen_by : List ℕ → List ℕ → List ℕ → List ℕ → Own → View
seen_by periods costs holdings ceilings own =
    record {
      periods = periods;
      costs = costs;
      holdings = holdings;
      ceilings = ceilings;
      place = own.place;
      period = own.period;
      budget = own.budget;
      blocking = own.blocking;
    }

-- The largest of f 0, …, f (n − 1) and the first place that has it.
unfoldable pub best_of : (ℕ → ℕ) → ℕ → Best
best_of f n = record { value = largest_to f n; at = first_at f n }

unfoldable pub job_of : View → ℕ → Job
job_of v k = record { end = budget_end v k; response = job_response v k; resource = job_resource v k }

-- The largest response of the first n jobs.
unfoldable pub worst_of : View → ℕ → Worst
worst_of v n = record { response = response v n; job = worst_job v n; resource = job_resource v (worst_job v n) }

-- What the search for a job end rests on once a budget has ended at `end`: `held` ticks more are waited for, besides the first n
-- loads, and there is an end within reach.
pub record BudgetOver (periods costs : List ℕ) (n end held : ℕ) : Type 0 where
  pub from : 1 ≤ end
  pub waits : Waits periods costs n end held
  pub down : ComesDown (total periods costs n (afterwards periods costs n end held))
