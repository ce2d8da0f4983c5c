-- The number of jobs of a subsystem (step 8), and 0 where no active period ends within the horizon. Assumes nothing.
use Rattle.std.specs.Prelude.{ℕ}
use Rattle.std.proofs.Math.Option.{Option, none, some}
use Rattle.job.specs.View.{View}
use Rattle.job.specs.Ends.{active_period, jobs}

abbrev pub jobs_in : View → Option ℕ → ℕ
jobs_in v (some active) = jobs v active
jobs_in v none = 0

unfoldable pub job_count : View → ℕ
job_count v = jobs_in v (active_period v)
