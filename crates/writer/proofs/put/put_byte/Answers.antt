-- `writer::put::put_byte` meets its contract: one store puts the byte. Assumes nothing.
use Rattle.stored.proofs.WriteSteps.{byte_is_put}
use Rattle.writer.proofs.put.put_byte.Goals as goal

pub returns : goal.returns
returns c =
    byte_is_put c.args.free.now c.args.x c.requires
