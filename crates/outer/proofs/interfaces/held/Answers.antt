-- `outer::interfaces::held` meets its contract: X(s, l) stands on its line after P and Q. Assumes nothing.
use borrow.Author.Rules.{rules}
use Rattle.outer.specs.Interfaces.{held_at}
use Rattle.outer.proofs.interfaces.held.Goals as goal

pub returns : goal.returns
unfolding held_at
returns c =
    search rules
