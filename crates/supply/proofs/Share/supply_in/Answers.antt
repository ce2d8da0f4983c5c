-- `supply::Share::supply_in` meets its contract: the formula worked with one quotient. Assumes nothing.
use mathlib.Core.Path.{sym}
use native.Mathlib.Omega.{arith}
use Rattle.supply.proofs.SupplyLaws.{supply_of_short, supply_worked}
use Rattle.supply.proofs.Share.supply_in.Goals as goal

pub returns-then-x-lead : goal.returns-then-x-lead
returns-then-x-lead c =
    sym (supply_of_short c.args.self.now.period c.args.self.now.budget c.args.self.now.end c.args.self.now.budget_least c.args.self.now.budget_by_end c.args.self.now.end_by_period c.args.x (omega arith))

pub returns : goal.returns
returns c =
    omega (arith, c.saturating_sub.ensures, supply_worked c.args.self.now.period c.args.self.now.budget c.args.self.now.end c.args.self.now.budget_least c.args.self.now.budget_by_end c.args.self.now.end_by_period c.args.x)
