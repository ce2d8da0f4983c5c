use mathlib.Core.Path.{sym}
use native.Mathlib.Omega.{arith}
use Rattle.lists.proofs.UpTo.{padded_none, padded_turn}
use Rattle.table.specs.Limits.{most}
use Rattle.table.proofs.slots.filled.Goals as goal

pub loop-s-init : goal.loop-s-init
loop-s-init g c = λ f is. sym (padded_none f c.args.empty most)

pub loop-s-preserved : goal.loop-s-preserved
loop-s-preserved g c = λ f is. padded_turn f c.args.empty most c.loop-s.s (omega (arith, c.loop-s-test.true, c.requires.n_le_most)) _ _ (c.loop-s.invariant f is) (is c.loop-s.s _ c.loop-s-test.true c.value.ensures)
