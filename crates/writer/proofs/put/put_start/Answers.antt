-- `writer::put::put_start` meets its contract: what is copied is the tag and the low two bytes of the length. Assumes nothing.
use Rattle.stored.proofs.WriteSteps.{start_copied}
use Rattle.writer.proofs.put.put_start.Goals as goal

pub returns : goal.returns
returns c =
    start_copied c.args.free.now c.args.tag c.args.len _ _ c.to_be_bytes.ensures c.copy_from_slice.ensures.after
