-- `outer::interfaces::period` meets its contract: P(s) is the first number of its line. Assumes nothing.
use borrow.Author.Rules.{rules}
use Rattle.outer.specs.Interfaces.{period_at}
use Rattle.outer.proofs.interfaces.period.Goals as goal

pub returns : goal.returns
unfolding period_at
returns c =
    search rules
