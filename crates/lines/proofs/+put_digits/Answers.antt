-- `lines::put_digits` meets its contract: two or three digits at once, or by recursion over x / 100 and then the last two. Each pen
-- keeps to the buffer, so that this is as the pen left it. Assumes nothing.
use Rattle.lines.proofs.NumberLaws.{two_digits, two_more_digits, number_by_pen, number_behind_front, room_behind_front}
use mathlib.Core.Path.{refl, sym, ap}
use native.Mathlib.Omega.{arith}
use lib.ListN.{length}
use borrow.Author.Rules.{rules}
use Rattle.lines.proofs.+put_digits.Goals as goal

pub put_digits-front-requires : goal.put_digits-front-requires
put_digits-front-requires t c =
    let large = c.if-x-ge1000.true in (
      omega (arith, c.requires.0, large),
      (omega (arith, large), omega (arith, two_more_digits c.args.x (omega (arith, large)) c.ranges.x.fits, c.requires.1)),
    )

pub put_pair-requires : goal.put_pair-requires
put_pair-requires t c =
    let a = c.args in
    (omega arith, room_behind_front a.buf.now a.at a.x (omega (arith, c.if-x-ge1000.true)) c.ranges.x.fits c.requires.1 c.put_digits-front.ensures)

pub returns-then-x-ge1000 : goal.returns-then-x-ge1000
returns-then-x-ge1000 t c =
    let a = c.args in
    let same = sym c.put_pair.ensures.same_buffer in
    number_behind_front a.buf.now a.at a.x (omega (arith, c.if-x-ge1000.true)) c.ranges.x.fits c.requires.1 c.put_digits-front.ensures c.put_pair.ensures
    (search (rules, same))

pub put_pair-requires-then-x-lt100 : goal.put_pair-requires-then-x-lt100
put_pair-requires-then-x-lt100 t c =
    let small = c.if-x-lt100.true in
    (small, omega (arith, ap length (two_digits c.args.x c.requires.0 small), c.requires.1))

pub returns-then-x-lt100 : goal.returns-then-x-lt100
returns-then-x-lt100 t c =
    let same = sym c.put_pair-then-x-lt100.ensures.same_buffer in
    number_by_pen c.args.x (two_digits c.args.x c.requires.0 c.if-x-lt100.true) c.put_pair-then-x-lt100.ensures (search (rules, same))

pub returns : goal.returns
returns t c =
    let same = sym c.put_three.ensures.same_buffer in
    number_by_pen c.args.x refl c.put_three.ensures (search (rules, same))
