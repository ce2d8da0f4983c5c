-- `supply::Share::moment_of` meets its contract: the formula worked with one quotient. Assumes nothing.
use Rattle.supply.proofs.MomentLaws.{moment_worked}
use Rattle.supply.proofs.Share.moment_of.Goals as goal

pub returns : goal.returns
returns c =
    moment_worked c.args.self.now.period c.args.self.now.budget c.args.self.now.end c.args.n c.from.result
    c.from-2.result c.from-3.result c.from-4.result c.from-5.result
    c.from.ensures c.from-2.ensures c.from-3.ensures c.from-4.ensures c.from-5.ensures
