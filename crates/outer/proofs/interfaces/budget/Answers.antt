-- `outer::interfaces::budget` meets its contract: Q(s) is the second number of its line. Assumes nothing.
use borrow.Author.Rules.{rules}
use Rattle.outer.specs.Interfaces.{budget_at}
use Rattle.outer.proofs.interfaces.budget.Goals as goal

pub returns : goal.returns
unfolding budget_at
returns c =
    search rules
