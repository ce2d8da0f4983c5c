-- `stored::number::put_number` meets its contract: what is copied to the start of the free bytes is the number's bytes. Assumes nothing.
use mathlib.Core.Path.{◌∙◌}
use Rattle.stored.proofs.WriteSteps.{number_copied}
use Rattle.stored.proofs.number.put_number.Goals as goal

pub returns : goal.returns
returns c =
    number_copied c.args.free.now _ c.args.x (c.copy_from_slice.ensures.after ∙ c.to_be_bytes.ensures)
