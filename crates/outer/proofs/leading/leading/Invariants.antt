-- `outer::leading::leading` meets its contract. The loop's invariant: the array is filled up to l, as if there were no resources
-- behind. Assumes nothing.
use mathlib.Core.Path.{◌≡◌}
use Rattle.lists.specs.Range.{padded}
use Rattle.table.specs.Limits.{most}
use Rattle.outer.specs.Interfaces.{held_at}
use Rattle.outer.specs.Leading.{ceiling_at, led}
use Rattle.outer.proofs.leading.leading.Given as goal

abbrev pub invariant-loop-l : goal.invariant-loop-l
invariant-loop-l l = (l.deciding ≡ padded (led (held_at l.lines l.s) (ceiling_at l.ceilings) l.l) 0 most l.l)
