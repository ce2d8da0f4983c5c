-- `job::job_response` meets its contract: Q + X tells whether a resource is held. Assumes nothing.
use native.Mathlib.Omega.{arith}
use Rattle.job.proofs.ActiveLaws.{active_within}
use Rattle.job.proofs.BudgetEndLaws.{released_before_end, budget_end_within}
use Rattle.job.proofs.ResponseLaws.{no_overrun, some_overrun, job_without, job_with, best_within}
use Rattle.job.proofs.job_response.Goals as goal

pub overflow_mul-result : goal.overflow_mul-result
overflow_mul-result c =
    omega (arith, released_before_end _ c.args.seen.now.sound c.requires.counted, budget_end_within _ c.args.seen.now.sound c.requires.counted, active_within _ c.args.seen.now.sound c.requires.counted.is_active)

pub overflow_sub-result : goal.overflow_sub-result
overflow_sub-result c =
    omega (arith, released_before_end _ c.args.seen.now.sound c.requires.counted, c.requires.end_value)

pub returns-then-seen-own : goal.returns-then-seen-own
returns-then-seen-own c =
    job_without _ c.args.k c.requires.end_value (no_overrun _ c.args.seen.now.sound c.if-seen-own.true)

pub overflow_cast-result : goal.overflow_cast-result
overflow_cast-result c =
    omega (arith, best_within _ _ c.best_response-best.ensures, c.args.seen.now.sound.few_resources)

pub overflow_add-result : goal.overflow_add-result
overflow_add-result c =
    omega (arith, best_within _ _ c.best_response-best.ensures, c.args.seen.now.sound.few_resources)

pub returns : goal.returns
returns c =
    job_with _ c.args.k c.requires.end_value (some_overrun _ c.args.seen.now.sound c.if-seen-own.false) c.best_response-best.ensures
