-- `lines::Pen::put_pair` meets its contract: a first digit and a last one. Assumes nothing.
use native.Mathlib.Omega.{arith}
use Rattle.lines.proofs.PutsLaws.{puts_room}
use Rattle.lines.proofs.NumberLaws.{pair_written}
use Rattle.lines.proofs.Pen.put_pair.Goals as goal

pub put_byte-requires-2 : goal.put_byte-requires-2
put_byte-requires-2 c =
    omega (arith, puts_room 1 c.requires.1 c.put_byte.ensures)

pub returns : goal.returns
returns c =
    pair_written c.args.x c.requires.1 c.digit.ensures c.digit-2.ensures c.put_byte.ensures c.put_byte-2.ensures
