-- `writer::put::put_header_value` meets its contract: what is copied is the value. Assumes nothing.
use mathlib.Core.Path.{refl}
use Rattle.stored.specs.File.{header_value}
use Rattle.stored.proofs.WriteSteps.{copied_is_put}
use Rattle.writer.proofs.put.put_header_value.Goals as goal

pub returns : goal.returns
unfolding header_value
returns c =
    copied_is_put c.args.free.now _ _ _ c.copy_from_slice.ensures.after refl
