use native.Mathlib.Omega.{arith}
use mathlib.Core.Path.{sym, ap, ◌∙◌}
use Rattle.table.specs.Grid.{subsystem_in}
use Rattle.table.proofs.GridLaws.{count_of_block, period_of_block, budget_of_block, task_of_block}
use Rattle.reader.specs.Taken.{task_with}
use Rattle.reader.proofs.TakenLaws.{subsystem_begins, subsystem_goes_on, subsystem_ends}
use Rattle.reader.proofs.taken.subsystem_of.Goals as goal

pub loop-i-init : goal.loop-i-init
loop-i-init c =
    subsystem_begins (subsystem_in c.args.m c.args.block.now) c.zeros.result _ _ _ c.zeros.ensures (c.period.ensures ∙ sym (period_of_block c.args.m c.args.block.now)) (c.budget.ensures ∙ sym (budget_of_block c.args.m c.args.block.now)) (c.count-n.ensures ∙ sym (count_of_block c.args.m c.args.block.now))

pub loop-i-preserved : goal.loop-i-preserved
loop-i-preserved c =
    subsystem_goes_on (subsystem_in c.args.m c.args.block.now) c.loop-i.i c.task_of.result c.loop-i.sub (omega (arith, c.loop-i-test.true, c.count-n.ensures, c.requires.0)) c.loop-i.invariant
    (c.task_of.ensures ∙ ap task_with (sym (task_of_block c.args.m c.args.block.now c.loop-i.i (omega (arith, c.loop-i-test.true, c.count-n.ensures)))))

pub returns : goal.returns
returns c =
    subsystem_ends (subsystem_in c.args.m c.args.block.now) c.loop-i.i c.loop-i.sub (omega (arith, c.count-n.ensures, count_of_block c.args.m c.args.block.now)) c.loop-i.invariant
