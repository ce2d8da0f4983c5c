-- `lines::Pen::put_number` meets its contract: one digit is written here, by the law that the recursive function's one digit has.
-- Assumes nothing.
use Rattle.lines.proofs.NumberLaws.{one_digit, small_number}
use native.Mathlib.Omega.{arith}
use Rattle.lines.proofs.Pen.put_number.Goals as goal

pub put_byte-requires : goal.put_byte-requires
put_byte-requires c =
    omega (arith, one_digit c.args.n c.if-n-lt10.true, c.requires)

pub returns-then-n-lt10 : goal.returns-then-n-lt10
returns-then-n-lt10 c =
    small_number c.args.n (omega arith) c.digit.ensures c.put_byte.ensures
