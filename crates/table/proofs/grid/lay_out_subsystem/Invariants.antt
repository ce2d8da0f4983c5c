-- `table::grid::lay_out_subsystem` meets its contract. Assumes nothing.
use Rattle.table.proofs.GridLaws.{BlockTo}
use Rattle.table.proofs.grid.lay_out_subsystem.Given as goal

abbrev pub invariant-loop-i : goal.invariant-loop-i
invariant-loop-i l = BlockTo l.sub l.i l.block
