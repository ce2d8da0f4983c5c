-- `bay_many::main` is safe: the grid that all files share begins as zeros. Assumes nothing.
use borrow.Author.Rules.{rules}
use Rattle.table.proofs.GridLaws.{blank_blocks}
use Rattle.bay_many.proofs.main.Goals as goal

pub loop-k-init : goal.loop-k-init
loop-k-init c =
    (search rules, search rules, blank_blocks)
