use native.Mathlib.Omega.{arith}
use Rattle.rules.proofs.OrderLaws.{counted_grid}
use Rattle.rules.proofs.EarlierLaws.{judged_none, judged_one, judged_every}
use Rattle.judge.proofs.refused_in_order.Goals as goal

pub loop-s-init : goal.loop-s-init
loop-s-init c =
    ((counted_grid _ _ _ c.args.laid.now.counted).subsystems_most, judged_none _ _ _)

pub invariant_of-part : goal.invariant_of-part
invariant_of-part c =
    record { counted = (counted_grid _ _ _ c.args.laid.now.counted).counted c.loop-s.s (omega arith) }

pub loop-s-preserved : goal.loop-s-preserved
loop-s-preserved c =
    let laid = c.args.laid.now in
    (c.loop-s.invariant.0, judged_one laid.n laid.m laid.grid.now c.loop-s.s c.loop-s.found _ (omega arith) c.loop-s.invariant.1 c.with_subsystem-found.ensures)

pub returns : goal.returns
returns c =
    let laid = c.args.laid.now in judged_every laid.n laid.m laid.grid.now c.loop-s.s c.loop-s.found (omega arith) c.loop-s.invariant.1
