-- `bay_many::say` is safe: no number of a file has more than ten digits. Assumes nothing.
use Prim.Native.Nat.{ℕ, ◌+◌, ◌≤◌}
use mathlib.Core.Path.{◌≡◌, sym}
use lib.ListN.{length}
use lib.Seq.{length-take-le}
use native.Mathlib.Omega.{arith}
use Rattle.lines.specs.Decimal.{decimal}
use Rattle.lines.proofs.DecimalLaws.{decimal_at_most_ten}
use Rattle.lines.proofs.PutsLaws.{puts_room}
use Rattle.bay_many.proofs.say.Goals as goal

line_most : (k digits end room : ℕ) → digits ≡ 0 + length (decimal k) → end ≡ digits + 1 → room ≡ 11 → end ≤ room
line_most k digits end room d e r = omega (arith, decimal_at_most_ten k)

pub put_number-requires : goal.put_number-requires
put_number-requires g c =
    omega (arith, decimal_at_most_ten c.args.k)

pub put_byte-requires : goal.put_byte-requires
put_byte-requires g c =
    omega (arith, puts_room 1 (omega (arith, decimal_at_most_ten c.args.k)) c.put_number.ensures)

pub slice_bounds-rest-end : goal.slice_bounds-rest-end
slice_bounds-rest-end g c =
    line_most c.args.k _ _ _ c.put_number.ensures.place c.put_byte.ensures.place (omega arith)

pub slice_bounds-write_all-end : goal.slice_bounds-write_all-end
slice_bounds-write_all-end g c =
    sym (length-take-le _ _ (line_most c.args.k _ _ _ c.put_number.ensures.place c.put_byte.ensures.place (omega arith)))
