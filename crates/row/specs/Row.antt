-- The row of a subsystem: its figures and its outcome (step 11). Assumes nothing.
use Rattle.std.specs.Prelude.{ℕ, cond, leb}
use Rattle.std.proofs.Math.Option.{Option, none, some}
use Rattle.outer.specs.Interfaces.{InterfacesM}
use Rattle.row.specs.declared.Outcome.{Outcome}
use Rattle.row.specs.declared.Outcome.TheVariants.{Fits, Late, None}
use Rattle.row.specs.declared.Row.{Row}
use Rattle.job.specs.View.{View, view_of, overrun}
use Rattle.job.specs.Ends.{active_period, jobs}
use Rattle.job.specs.Response.{response, worst_job, job_resource}

-- R, as a row reports it, for each outcome.
abbrev pub reported : Outcome → ℕ
reported (Fits r) = r
reported (Late r) = r
reported None = 0

-- A row fits if R ≤ P, else it is late.
unfoldable pub judged : ℕ → ℕ → Outcome
judged period r = cond (leb r period) (Fits r) (Late r)

-- The row where no active period ends at or below the horizon: X and B stand, the outcome is none and the rest is 0.
unfoldable pub row_without : View → ℕ → Row
row_without v failing =
    record {
      holding = overrun v;
      failing = failing;
      blocking = v.blocking;
      active = 0;
      jobs = 0;
      job = 0;
      resource = 0;
      outcome = None;
    }

-- The row with an active period, over its n jobs.
unfoldable pub row_with : View → ℕ → ℕ → ℕ → Row
row_with v failing active n =
    record {
      holding = overrun v;
      failing = failing;
      blocking = v.blocking;
      active = active;
      jobs = n;
      job = worst_job v n;
      resource = job_resource v (worst_job v n);
      outcome = judged v.period (response v n);
    }

unfoldable pub row_for : View → ℕ → Option ℕ → Row
row_for v failing (some active) = row_with v failing active (jobs v active)
row_for v failing none = row_without v failing

-- The row of subsystem s, with the number of its first failing task, which the tasks decide and no interface shows.
unfoldable pub row_of : InterfacesM → ℕ → ℕ → Row
row_of g s failing = row_for (view_of g s) failing (active_period (view_of g s))
