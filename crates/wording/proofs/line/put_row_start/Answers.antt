-- `wording::line::put_row_start` meets its contract. Assumes nothing.
use native.Mathlib.Omega.{arith}
use Prim.Native.Nat.{◌+◌}
use Rattle.lines.specs.Words.{word}
use Rattle.lines.proofs.DecimalLaws.{decimal_at_most_ten}
use Rattle.wording.specs.Lines.{figure, row_start}
use Rattle.wording.proofs.WroteLaws.{run_from, run_on, run_room}
use Rattle.wording.proofs.LineLaws.{figure_most}
use Rattle.wording.proofs.line.put_row_start.Goals as goal

pub put_number-requires : goal.put_number-requires
put_number-requires c =
    omega (arith, decimal_at_most_ten (c.args.s + 1), c.requires.1)

pub put_figure-requires : goal.put_figure-requires
put_figure-requires c =
    let behind_index = run_from {k = 10} (decimal_at_most_ten (c.args.s + 1)) c.put_number.ensures in
    omega (arith, run_room 13 (omega (arith, c.requires.1)) behind_index)

pub put_figure-requires-2 : goal.put_figure-requires-2
unfolding figure word
put_figure-requires-2 c =
    let behind_index = run_from {k = 10} (decimal_at_most_ten (c.args.s + 1)) c.put_number.ensures in
    let behind_holding = run_on {j = 13} (omega (arith, c.requires.1)) behind_index (figure_most (word " X ") c.args.row.holding) c.put_figure.ensures in
    omega (arith, run_room 17 (omega (arith, c.requires.1)) behind_holding)

pub put_figure-requires-3 : goal.put_figure-requires-3
unfolding figure word
put_figure-requires-3 c =
    let behind_index = run_from {k = 10} (decimal_at_most_ten (c.args.s + 1)) c.put_number.ensures in
    let behind_holding = run_on {j = 13} (omega (arith, c.requires.1)) behind_index (figure_most (word " X ") c.args.row.holding) c.put_figure.ensures in
    let behind_failing = run_on {j = 17} (omega (arith, c.requires.1)) behind_holding (figure_most (word " local ") c.args.row.failing) c.put_figure-2.ensures in
    omega (arith, run_room 13 (omega (arith, c.requires.1)) behind_failing)

pub put_figure-requires-4 : goal.put_figure-requires-4
unfolding figure word
put_figure-requires-4 c =
    let behind_index = run_from {k = 10} (decimal_at_most_ten (c.args.s + 1)) c.put_number.ensures in
    let behind_holding = run_on {j = 13} (omega (arith, c.requires.1)) behind_index (figure_most (word " X ") c.args.row.holding) c.put_figure.ensures in
    let behind_failing = run_on {j = 17} (omega (arith, c.requires.1)) behind_holding (figure_most (word " local ") c.args.row.failing) c.put_figure-2.ensures in
    let behind_blocking = run_on {j = 13} (omega (arith, c.requires.1)) behind_failing (figure_most (word " B ") c.args.row.blocking) c.put_figure-3.ensures in
    omega (arith, run_room 13 (omega (arith, c.requires.1)) behind_blocking)

pub returns : goal.returns
unfolding figure row_start word
returns c =
    let behind_index = run_from {k = 10} (decimal_at_most_ten (c.args.s + 1)) c.put_number.ensures in
    let behind_holding = run_on {j = 13} (omega (arith, c.requires.1)) behind_index (figure_most (word " X ") c.args.row.holding) c.put_figure.ensures in
    let behind_failing = run_on {j = 17} (omega (arith, c.requires.1)) behind_holding (figure_most (word " local ") c.args.row.failing) c.put_figure-2.ensures in
    let behind_blocking = run_on {j = 13} (omega (arith, c.requires.1)) behind_failing (figure_most (word " B ") c.args.row.blocking) c.put_figure-3.ensures in
    (run_on {j = 13} (omega (arith, c.requires.1)) behind_blocking (figure_most (word " L ") c.args.row.active) c.put_figure-4.ensures).writes
