use native.Mathlib.Omega.{arith}
use mathlib.Core.Path.{sym}
use Rattle.lists.proofs.Over.{largest_to_zero}
use Rattle.rules.proofs.BreaksLaws.{access_turn}
use Rattle.rules.proofs.breaks.longest_of_task.Goals as goal

pub loop-l-init : goal.loop-l-init
loop-l-init c =
    sym (largest_to_zero _)

pub loop-l-preserved : goal.loop-l-preserved
loop-l-preserved c =
    omega (arith, c.max-longest.ensures, access_turn c.args.block.now c.args.i c.loop-l.l c.loop-l.longest c.access.result c.loop-l.invariant c.access.ensures)
