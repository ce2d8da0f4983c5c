use Prim.Native.Nat.{◌<◌}
use mathlib.Core.Path.{◌≡◌, ap}
use lib.ListN.{length, take, length-take}
use lib.Seq.{length-take-le, get_or-take}
use Rattle.report.specs.Report.{past_rows}
use Rattle.wording.specs.Lines.{row_line}
use Rattle.lines.proofs.PutsLaws.{puts_same}
use Rattle.text.proofs.RowsLaws.{rows_begin, room_for_row, rows_go_on, rows_end}
use borrow.Author.Rules.{rules}
use native.Mathlib.Omega.{arith}
use Rattle.text.proofs.put_rows.Goals as goal

pub loop-s-init : goal.loop-s-init
loop-s-init c =
    rows_begin _ _

pub put_row-requires : goal.put_row-requires
put_row-requires c =
    let below : c.loop-s.s < c.args.n = omega (arith, length-take c.args.n c.args.rows) in
    (omega (arith, below), room_for_row c.args.rows c.args.pen.now c.loop-s.s c.loop-s.pen c.requires.1 (omega (arith, below)) c.loop-s.invariant)

pub loop-s-preserved : goal.loop-s-preserved
loop-s-preserved c =
    let below : c.loop-s.s < c.args.n = omega (arith, length-take c.args.n c.args.rows) in
    rows_go_on c.args.rows c.args.pen.now c.loop-s.s c.loop-s.pen c.requires.1 (omega (arith, below)) c.loop-s.invariant _
    (puts_same (ap (row_line c.loop-s.s) (get_or-take c.args.n c.args.rows c.loop-s.s past_rows below)) c.put_row.ensures)

pub returns : goal.returns
returns c =
    let all : length (take c.args.n c.args.rows) ≡ c.args.n = length-take-le c.args.n c.args.rows (search rules) in
    rows_end c.args.rows c.args.pen.now c.args.n c.loop-s.s c.loop-s.pen (omega (arith, all)) (omega (arith, all)) c.loop-s.invariant
