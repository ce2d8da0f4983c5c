-- `offsets::figures::put_rows` meets its contract. The loop's invariant: the rows so far are put. Assumes nothing.
use mathlib.Core.List.{flat_map}
use Rattle.lists.specs.Range.{up_to}
use Rattle.report.specs.Report.{past_rows}
use Rattle.stored.specs.Write.{IsPut}
use Rattle.stored.proofs.Elements.{element_at}
use Rattle.offsets.proofs.FigureLaws.{row_bytes}
use Rattle.offsets.proofs.figures.put_rows.Given as goal

abbrev pub invariant-loop-row : goal.invariant-loop-row
invariant-loop-row l = IsPut (flat_map row_bytes (up_to (element_at past_rows l.fn.rows) l.row-index)) l.initial.free l.free l.at
