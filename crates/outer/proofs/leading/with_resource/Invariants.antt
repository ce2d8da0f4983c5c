-- `outer::leading::with_resource` meets its contract. The loop's invariant: the array is as it was, and none of the resources
-- passed so far decides at the ceiling of l. Assumes nothing.
use mathlib.Core.Path.{◌≡◌}
use Rattle.lists.specs.Range.{padded}
use Rattle.table.specs.Limits.{most}
use Rattle.outer.specs.Interfaces.{held_at}
use Rattle.outer.specs.Leading.{ceiling_at, led}
use Rattle.outer.proofs.EnteringLaws.{NoRival}
use Rattle.outer.proofs.leading.with_resource.Given as goal

abbrev pub invariant-loop-j : goal.invariant-loop-j
invariant-loop-j l = (l.deciding ≡ padded (led (held_at l.lines l.s) (ceiling_at l.ceilings) l.l) 0 most l.l) × NoRival (ceiling_at l.ceilings) l.l l.deciding l.j
