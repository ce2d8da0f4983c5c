-- `table::grid::line_of` meets its contract: the numbers are written out one by one. Assumes nothing.
use mathlib.Core.Path.{refl}
use Rattle.table.proofs.GridLaws.{line_is}
use Rattle.table.proofs.grid.line_of.Goals as goal

pub returns : goal.returns
returns c =
    (line_is c.args.task, refl)
