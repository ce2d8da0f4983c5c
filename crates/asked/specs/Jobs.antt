-- The end of one job, for a planner who asks why a row is late (steps 8 to 10). Here s and l are what document 01 writes:
-- subsystems and resources from 1. l = 0 asks for the budget end F(k). That `None` is given exactly where a question has
-- no answer is in proofs/JobsExactly.antt. Assumes nothing.
use Rattle.std.specs.Prelude.{Option, Some, None, Ok, Err, ℕ, zero, suc, ◌-◌, ◌≤◌, ◌<◌, ◌≡◌, cond, ltb}
use Rattle.table.specs.Meaning.{System}
use Rattle.table.specs.Parts.{subsystem_count, subsystem_of}
use Rattle.holding.specs.Holding.{resource_holding}
use Rattle.rules.specs.Judged.{Judged, admitted}
use Rattle.rules.specs.Rules.{judge_of}
use Rattle.outer.specs.Interfaces.{InterfacesM}
use Rattle.outer.specs.Parts.{count}
use Rattle.job.specs.View.{View, view_of, held}
use Rattle.job.specs.Ends.{budget_end, job_end}
use Rattle.job.specs.JobCount.{job_count}
use Rattle.job.specs.Sound.{Counted}
use Rattle.rows.specs.Interfaces.{interfaces_from}

-- Where job k ends: with its budget, or with a resource that is held. Past the last resource nothing is held.
unfoldable pub end_with : View → ℕ → ℕ → Option ℕ
end_with v k zero = Some (budget_end v k)
end_with v k (suc l) = cond (ltb 0 (held v l)) (Some (job_end v k l)) None

-- The same for any k: only the numbers below the job count are jobs, and without an active period there are none.
unfoldable pub end_of : View → ℕ → ℕ → Option ℕ
end_of v k l = cond (ltb k (job_count v)) (end_with v k l) None

-- The same for any s: only 1..N are subsystems.
unfoldable pub end_in : InterfacesM → ℕ → ℕ → ℕ → Option ℕ
end_in g zero k l = None
end_in g (suc s) k l = cond (ltb s (count g)) (end_of (view_of g s) k l) None

-- Of a system that was judged so: a refused table has no jobs.
abbrev pub end_for : Judged → System → ℕ → ℕ → ℕ → Option ℕ
end_for (Err r) sys s k l = None
end_for (Ok _) sys s k l = end_in (interfaces_from sys) s k l

-- The end of job k of subsystem s with resource l, or with its budget.
unfoldable pub job_end_of : System → ℕ → ℕ → ℕ → Option ℕ
job_end_of sys s k l = end_for (judge_of sys) sys s k l

-- What it takes for a question to have an answer: the table is admitted, s is one of 1..N, k is a job of an active period
-- within the horizon, l is at most M, and where l is 1 or more, X(s, l) is above 0.
pub record HasEnd (sys : System) (s k l : ℕ) : Type 0 where
  pub admitted : judge_of sys ≡ admitted
  pub subsystem : (1 ≤ s) × (s ≤ subsystem_count sys)
  pub job : Counted (view_of (interfaces_from sys) (s - 1)) k
  pub resource : l ≤ sys.resources
  pub held : 1 ≤ l → 0 < resource_holding (subsystem_of sys (s - 1)) (l - 1)
