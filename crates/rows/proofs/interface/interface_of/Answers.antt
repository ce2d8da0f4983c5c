use native.Mathlib.Omega.{arith}
use Rattle.table.specs.Grid.{subsystem_in}
use Rattle.rows.proofs.InterfaceLaws.{holding_small, held_here, line_begins, line_more, line_shows}
use Rattle.rows.proofs.interface.interface_of.Goals as goal

pub loop-l-init : goal.loop-l-init
loop-l-init c =
    line_begins _ _ _ _ c.period.ensures c.budget.ensures

pub overflow_cast-line : goal.overflow_cast-line
overflow_cast-line c =
    omega (arith, holding_small c.args.block.now c.args.m c.requires.sound_slot c.loop-l.l c.loop-l-test.true, held_here (subsystem_in c.args.m c.args.block.now) c.args.m c.loop-l.l c.args.held.now c.requires.held_value c.loop-l-test.true)

pub loop-l-preserved : goal.loop-l-preserved
loop-l-preserved c =
    line_more c.args.m c.args.block.now c.loop-l.line c.loop-l.l _ (omega (arith, c.loop-l-test.true, c.requires.sound_slot.resources_most)) c.loop-l.invariant (held_here (subsystem_in c.args.m c.args.block.now) c.args.m c.loop-l.l c.args.held.now c.requires.held_value c.loop-l-test.true)

pub returns : goal.returns
returns c =
    line_shows _ _ _ c.loop-l.l (omega arith) c.loop-l.invariant
