-- `least::round_up` meets its contract: the quotient of the tick before the last, and one more. Assumes nothing.
use borrow.Author.Rules.{rules}
use Rattle.least.proofs.Up.{up_by_last_tick}
use Rattle.least.proofs.round_up.Goals as goal

pub returns : goal.returns
returns c =
    up_by_last_tick c.args.a c.args.b (search rules) (search rules)
