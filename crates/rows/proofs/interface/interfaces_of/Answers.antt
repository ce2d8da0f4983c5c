use native.Mathlib.Omega.{arith}
use Rattle.rows.proofs.InterfaceLaws.{lines_begin, lines_more, lines_are_all, sound_slot, held_slot, few_subsystems}
use Rattle.rows.proofs.interface.interfaces_of.Goals as goal

pub loop-s-init : goal.loop-s-init
loop-s-init c =
    ((few_subsystems _ _ _ c.requires.sound_system).0, lines_begin _ _ _ _ c.requires.lines_len)

pub interface_of-requires : goal.interface_of-requires
interface_of-requires c =
    record { sound_slot = sound_slot c.args.n c.args.m c.args.grid.now c.loop-s.s c.loop-s-test.true c.requires.sound_system; held_value = held_slot c.args.n c.args.m c.args.grid.now c.loop-s.s c.loop-s-test.true c.args.holdings.now c.requires.held_in }

pub loop-s-preserved : goal.loop-s-preserved
loop-s-preserved c =
    (c.loop-s.invariant.0, lines_more c.args.n c.args.m c.args.grid.now c.loop-s.lines c.loop-s.s _ (omega (arith, c.loop-s-test.true, c.loop-s.invariant.0)) c.loop-s.invariant.1 c.interface_of.ensures)

pub returns : goal.returns
returns c =
    lines_are_all c.args.n c.args.m c.args.grid.now c.loop-s.lines c.loop-s.s (omega arith) c.loop-s.invariant.1
