-- `wording::line::put_row` meets its contract. Assumes nothing.
use native.Mathlib.Omega.{arith}
use Rattle.wording.specs.Lines.{row_line}
use Rattle.wording.specs.Room.{start_most, end_most}
use Rattle.wording.proofs.WroteLaws.{run_from, run_on, run_room}
use Rattle.wording.proofs.LineLaws.{row_start_most, row_end_most}
use Rattle.wording.proofs.line.put_row.Goals as goal

pub put_row_end-requires : goal.put_row_end-requires
put_row_end-requires c =
    let behind_start = run_from {k = start_most} (row_start_most c.args.s c.args.row) c.put_row_start.ensures in
    run_room end_most (omega (arith, c.requires.1)) behind_start

pub returns : goal.returns
unfolding row_line
returns c =
    let behind_start = run_from {k = start_most} (row_start_most c.args.s c.args.row) c.put_row_start.ensures in
    (run_on {j = end_most} (omega (arith, c.requires.1)) behind_start (row_end_most c.args.row) c.put_row_end.ensures).writes
