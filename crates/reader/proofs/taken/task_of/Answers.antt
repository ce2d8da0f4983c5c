use Rattle.table.proofs.GridLaws.{access_of_line}
use native.Mathlib.Omega.{arith}
use mathlib.Core.Path.{sym, ◌∙◌}
use Rattle.table.specs.Grid.{task_in}
use Rattle.reader.proofs.TakenLaws.{times_of_line, task_goes_on, task_ends, accesses_of_line}
use Rattle.reader.proofs.taken.task_of.Goals as goal

pub loop-l-init : goal.loop-l-init
loop-l-init c =
    times_of_line c.args.m c.args.i c.args.block.now c.zeros.result _ _ _ c.zeros.ensures c.separation.ensures c.work.ensures c.deadline.ensures

pub loop-l-preserved : goal.loop-l-preserved
loop-l-preserved c =
    task_goes_on (task_in c.args.m c.args.block.now c.args.i) c.loop-l.l c.access.result c.loop-l.task (omega (arith, c.loop-l-test.true, c.requires.1)) c.loop-l.invariant
    (c.access.ensures ∙ sym (access_of_line c.args.m c.args.block.now c.args.i c.loop-l.l c.loop-l-test.true))

pub returns : goal.returns
returns c =
    task_ends (task_in c.args.m c.args.block.now c.args.i) c.loop-l.l c.loop-l.task (omega (arith, accesses_of_line c.args.m c.args.i c.args.block.now)) c.loop-l.invariant
