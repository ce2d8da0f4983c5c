-- `lines::Pen::put_bytes` meets its contract: the part from its place on is the bytes. Assumes nothing.
use Prim.Native.Nat.{◌+◌, ◌-◌}
use mathlib.Core.Path.{◌≡◌, refl}
use lib.ListN.{length}
use lib.Seq.{drop-drop}
use native.Mathlib.Omega.{arith}
use Rattle.lines.specs.Written.{written}
use Rattle.lines.proofs.Pen.put_bytes.Goals as goal

pub returns : goal.returns
unfolding written
returns c =
    let pen = c.args.self.now in
    let n = length c.args.bytes.now in
    let room : pen.at + n - pen.at ≡ n = omega arith in
    record {
      place = refl;
      holds = rw (room, c.copy_from_slice.ensures.after, drop-drop n pen.at pen.buf.now) refl;
      same_buffer = refl;
    }
