-- `text::put_rows` meets its contract. Assumes nothing.
use Rattle.text.proofs.RowsLaws.{RowsTo}
use Rattle.text.proofs.put_rows.Given as goal

abbrev pub invariant-loop-s : goal.invariant-loop-s
invariant-loop-s l = RowsTo l.fn.rows l.fn.pen l.s l.pen
