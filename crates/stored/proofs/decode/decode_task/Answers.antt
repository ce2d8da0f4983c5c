use mathlib.Core.Path.{◌∙◌}
use lib.ListN.{length-set}
use Prim.Native.Nat.{◌+◌}
use Rattle.stored.specs.Decode.{decoded_access}
use Rattle.stored.proofs.Decoding.{started_line, line_begins, one_access_more}
use Rattle.stored.proofs.decode.decode_task.Goals as goal

pub loop-l-init : goal.loop-l-init
loop-l-init c = (
  started_line c.args.line.now c.requires.line _ _ _,
  line_begins c.args.m c.args.value.now c.args.line.now c.requires.line _ _ _ c.number_at.ensures c.number_at-2.ensures c.number_at-3.ensures,
)

pub loop-l-preserved : goal.loop-l-preserved
unfolding decoded_access
loop-l-preserved c = (
  length-set c.loop-l.line (c.loop-l.l + 3) c.number_at-in-loop-l.result ∙ c.loop-l.invariant.0,
  one_access_more c.args.m c.args.value.now c.loop-l.l c.number_at-in-loop-l.result c.loop-l.line c.loop-l-test.true c.requires.m_le_most.0 c.loop-l.invariant.0 c.loop-l.invariant.1 c.number_at-in-loop-l.ensures,
)
