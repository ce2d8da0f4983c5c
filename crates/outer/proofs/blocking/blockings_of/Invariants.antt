-- `outer::blocking::blockings_of` meets its contract. The loop's invariant: the resources before l have joined. Assumes nothing.
use mathlib.Core.Path.{◌≡◌}
use Rattle.lists.specs.Range.{padded}
use Rattle.table.specs.Limits.{most}
use Rattle.outer.specs.Blocked.{blocked_in}
use Rattle.outer.proofs.blocking.blockings_of.Given as goal

abbrev pub invariant-loop-l : goal.invariant-loop-l
invariant-loop-l l = (l.blockings ≡ padded (blocked_in l.shown.lines.now l.shown.n l.l) 0 most l.shown.n)
