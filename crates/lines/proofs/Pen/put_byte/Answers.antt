-- `lines::Pen::put_byte` meets its contract. Assumes nothing.
use mathlib.Core.Path.{refl}
use Rattle.lines.proofs.WrittenLaws.{written_byte}
use Rattle.lines.proofs.Pen.put_byte.Goals as goal

pub returns : goal.returns
returns c =
    record { place = refl; holds = written_byte _ _ _ c.requires; same_buffer = refl }
