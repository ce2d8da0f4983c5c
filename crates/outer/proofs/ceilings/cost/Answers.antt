-- `outer::ceilings::cost` meets its contract: Q + X is at most P, which is small. Assumes nothing.
use native.Mathlib.Omega.{arith}
use Rattle.outer.proofs.Slots.{cost_asked}
use Rattle.outer.proofs.ceilings.cost.Goals as goal

pub overflow_add-result : goal.overflow_add-result
overflow_add-result c =
    let asked = cost_asked c.args.shown.now.n c.args.shown.now.m c.args.shown.now.lines.now c.args.shown.now.sound c.args.s c.requires in
    record { fits = omega (arith, asked.2, c.budget.ensures, c.largest_holding.ensures) }
