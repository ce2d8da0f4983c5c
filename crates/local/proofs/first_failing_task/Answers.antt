use Prim.Native.Nat.{◌<◌}
use native.Mathlib.Omega.{arith}
use mathlib.Core.Path.{sym, ap}
use mathlib.Core.Bool.{not}
use Rattle.lists.proofs.UpTo.{padded_none, padded_turn}
use Rattle.table.specs.Limits.{most}
use Rattle.table.specs.Grid.{count_in, separation_in, work_in, subsystem_in}
use Rattle.local.proofs.BlockingLaws.{blocking_read}
use Rattle.local.proofs.TaskLaws.{tasks_within}
use Rattle.local.proofs.FailingLaws.{failing_from_zero, failing_here, failing_next, failing_over}
use Rattle.local.proofs.first_failing_task.Goals as goal

pub loop-i-init : goal.loop-i-init
loop-i-init c = (
  omega (arith, c.count-i-end.ensures, tasks_within _ _ c.requires.ready.sound),
  record {
    separations_are = sym (padded_none _ 0 most);
    works_are = sym (padded_none _ 0 most);
  },
  failing_from_zero _ _ _,
)

pub task_passes-requires-clause-blocked_value : goal.task_passes-requires-clause-blocked_value
task_passes-requires-clause-blocked_value c =
    let part = c.args.part.now in
    blocking_read (subsystem_in part.m part.block.now) part.m (count_in part.block.now) c.loop-i.i _ c.task_blockings-blockings.ensures (omega (arith, c.count-i-end.ensures))

pub returns-then-not-task_passes : goal.returns-then-not-task_passes
returns-then-not-task_passes c =
    failing_here c.args.part.now.m c.args.part.now.block.now c.args.end c.loop-i.i (omega (arith, c.count-i-end.ensures)) _ c.task_passes.ensures (ap not c.if-not-task_passes.true) c.loop-i.invariant.2

pub loop-i-preserved : goal.loop-i-preserved
loop-i-preserved c =
    let room : c.loop-i.i < most = omega (arith, c.loop-i.invariant.0) in (
      c.loop-i.invariant.0,
      record {
        separations_are = padded_turn (separation_in c.args.part.now.block.now) 0 most c.loop-i.i room c.loop-i.separations _ c.loop-i.invariant.1.separations_are c.separation.ensures;
        works_are = padded_turn (work_in c.args.part.now.block.now) 0 most c.loop-i.i room c.loop-i.works _ c.loop-i.invariant.1.works_are c.work.ensures;
      },
      failing_next c.args.part.now.m c.args.part.now.block.now c.args.end c.loop-i.i (omega (arith, c.count-i-end.ensures)) _ c.task_passes.ensures (ap not c.if-not-task_passes.false) c.loop-i.invariant.2,
    )

pub returns : goal.returns
returns c =
    failing_over c.args.part.now.m c.args.part.now.block.now c.args.end c.loop-i.i (omega (arith, c.count-i-end.ensures)) c.loop-i.invariant.2
