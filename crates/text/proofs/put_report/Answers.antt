-- `text::put_report` meets its contract. Assumes nothing.
use native.Mathlib.Omega.{arith}
use Prim.Native.Nat.{◌*◌}
use Rattle.table.specs.Limits.{most}
use Rattle.lines.proofs.PutsLaws.{puts_same}
use Rattle.wording.specs.Room.{line_most}
use Rattle.wording.proofs.WroteLaws.{run_from, run_on, run_room}
use Rattle.text.proofs.RowsLaws.{lines_most}
use Rattle.text.proofs.ReportLaws.{verdict_most, text_of_refused, text_of_admitted}
use Rattle.text.proofs.put_report.Goals as goal

pub returns-in-Err : goal.returns-in-Err
returns-in-Err c =
    puts_same (text_of_refused c.args.report c.args.n _ c.in-Err.is) c.put_refused_table.ensures

pub put_rows-requires : goal.put_rows-requires
put_rows-requires c =
    let behind_verdict = run_from {k = 9} (verdict_most c.args.report.accepted) c.put_verdict.ensures in
    (c.requires.n_le_most c.in_default.is, run_room (most * line_most) (omega (arith, c.requires.text_room_in_bounds)) behind_verdict)

pub returns : goal.returns
returns c =
    let behind_verdict = run_from {k = 9} (verdict_most c.args.report.accepted) c.put_verdict.ensures in
    puts_same (text_of_admitted c.args.report c.args.n c.in_default.is)
    (run_on (omega (arith, c.requires.text_room_in_bounds)) behind_verdict (lines_most c.args.report.rows c.args.n) c.put_rows.ensures).writes
