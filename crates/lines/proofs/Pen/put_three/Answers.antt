-- `lines::Pen::put_three` meets its contract: a first digit and the two behind it. Assumes nothing.
use Rattle.lines.proofs.NumberLaws.{two_more_digits, small_number, large_number, room_for_two}
use Prim.Native.Nat.{◌/◌}
use native.Mathlib.Omega.{arith}
use Rattle.lines.proofs.Pen.put_three.Goals as goal

pub put_byte-requires : goal.put_byte-requires
put_byte-requires c =
    omega (arith, two_more_digits c.args.x c.requires.0 c.ranges.x.fits, c.requires.2)

pub put_pair-requires : goal.put_pair-requires
put_pair-requires c =
    let front = small_number (c.args.x / 100) (omega (arith, c.requires.1)) c.digit.ensures c.put_byte.ensures in
    (omega arith, room_for_two c.args.x c.requires.0 c.ranges.x.fits c.requires.2 front)

pub returns : goal.returns
returns c =
    let front = small_number (c.args.x / 100) (omega (arith, c.requires.1)) c.digit.ensures c.put_byte.ensures in
    large_number c.args.x c.requires.0 c.ranges.x.fits c.requires.2 front c.put_pair.ensures
