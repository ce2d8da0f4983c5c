use native.Mathlib.Nat.{pos_of_ne-zero}
use Rattle.job.specs.View.{held, ceiling}
use Rattle.job.proofs.ActiveLaws.{active_within}
use Rattle.job.specs.Response.{response_with}
use Rattle.job.proofs.BestLaws.{best_none, best_step, best_stays}
use Rattle.job.proofs.ResponseLaws.{after_end, responds, uncounted_response}
use Rattle.job.proofs.BudgetEndLaws.{released_before_end, budget_end_within}
use Rattle.job.proofs.WaitLaws.{frees_fewer}
use native.Mathlib.Omega.{arith}
use Rattle.job.proofs.best_response.Goals.{then-held-ne0, else-held-ne0}
use Rattle.job.proofs.best_response.Goals as goal

pub loop-l-init : goal.loop-l-init
loop-l-init c =
    best_none _

pub overflow_mul-release : goal.overflow_mul-release
overflow_mul-release c =
    omega (arith, released_before_end _ c.args.seen.now.sound c.requires.counted, budget_end_within _ c.args.seen.now.sound c.requires.counted, active_within _ c.args.seen.now.sound c.requires.counted.is_active)

pub response_with-response-requires : goal.response_with-response-requires
unfolding ceiling held
response_with-response-requires c =
    let counts = pos_of_ne-zero c.if-held-ne0.true in
    let reaches = c.args.seen.now.sound.ceiling_reaches c.loop-l.l c.loop-l-test.true counts in
    record { ends_at = (λ t u. c.requires.ends_at.0 t (omega (arith, u, reaches)), c.requires.ends_at.1); budget_over = after_end _ c.args.seen.now.sound c.requires.counted c.loop-l.l c.loop-l-test.true c.requires.end_value counts; release_le_end = omega (arith, released_before_end _ c.args.seen.now.sound c.requires.counted, c.requires.end_value); frees = frees_fewer _ c.args.seen.now.free (omega (arith, reaches)) }

pub loop-l-preserved : goal.loop-l-preserved
unfolding ceiling held
loop-l-preserved c =
    (elim c.if-held-ne0.branch [
      | then-held-ne0 w ↦ let here = responds _ c.args.seen.now.sound c.requires.counted c.loop-l.l c.loop-l-test.true c.requires.end_value (pos_of_ne-zero w.if-held-ne0.true) w.response_with-response.ensures in
          rw w.best-is (best_step (response_with _ c.args.k) c.loop-l.l c.loop-l.invariant here w.better-best.ensures)
      | else-held-ne0 w ↦ rw w.best-is (best_stays (response_with _ _) c.loop-l.l c.loop-l.invariant (uncounted_response _ _ c.loop-l.l (omega (arith, w.if-held-ne0.false))))
    ])
