use mathlib.Core.Path.{sym}
use Rattle.lists.proofs.Over.{largest_to_zero}
use Rattle.lists.proofs.Largest.{largest_step}
use Rattle.outer.specs.Interfaces.{held_at}
use Rattle.outer.proofs.ceilings.largest_holding.Goals as goal

pub loop-l-init : goal.loop-l-init
loop-l-init c =
    sym (largest_to_zero _)

pub loop-l-preserved : goal.loop-l-preserved
loop-l-preserved c =
    largest_step (held_at c.args.shown.now.lines.now c.args.s) c.loop-l.l c.loop-l.invariant c.held.ensures c.max-best.ensures
