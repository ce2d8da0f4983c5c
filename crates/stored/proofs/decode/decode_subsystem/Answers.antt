-- `stored::decode::decode_subsystem` meets its contract: the three numbers stand at the start of the line. Assumes nothing.
use Rattle.stored.proofs.Decoding.{head_line_is, started_line}
use Rattle.stored.proofs.decode.decode_subsystem.Goals as goal

pub returns : goal.returns
returns c = (
  head_line_is c.args.line.now c.requires.line _ _ _ c.args.value.now c.number_at.ensures c.number_at-2.ensures c.from.ensures,
  started_line c.args.line.now c.requires.line _ _ _,
)
