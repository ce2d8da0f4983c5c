-- `wording::line::put_figure` meets its contract. Assumes nothing.
use native.Mathlib.Omega.{arith}
use Rattle.lines.proofs.DecimalLaws.{decimal_at_most_ten}
use Rattle.lines.proofs.PutsLaws.{puts_then, puts_room}
use Rattle.wording.proofs.line.put_figure.Goals as goal

pub put_number-requires : goal.put_number-requires
put_number-requires c =
    omega (arith, decimal_at_most_ten c.args.n, puts_room 10 (omega (arith, c.requires)) c.put_bytes.ensures)

pub returns : goal.returns
returns c =
    puts_then (omega (arith, c.requires)) c.put_bytes.ensures c.put_number.ensures
