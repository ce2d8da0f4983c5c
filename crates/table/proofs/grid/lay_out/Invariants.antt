-- `table::grid::lay_out` meets its contract. Assumes nothing.
use Rattle.table.proofs.GridLaws.{GridTo}
use Rattle.table.proofs.grid.lay_out.Given as goal

abbrev pub invariant-loop-s : goal.invariant-loop-s
invariant-loop-s l = GridTo l.t l.s l.grid
