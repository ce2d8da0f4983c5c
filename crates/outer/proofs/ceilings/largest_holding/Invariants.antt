-- `outer::ceilings::largest_holding` meets its contract. The loop's invariant: the largest of the resources passed so far.
-- Assumes nothing.
use mathlib.Core.Path.{◌≡◌}
use Rattle.lists.specs.Range.{largest_to}
use Rattle.outer.specs.Interfaces.{held_at}
use Rattle.outer.proofs.ceilings.largest_holding.Given as goal

abbrev pub invariant-loop-l : goal.invariant-loop-l
invariant-loop-l l = (l.best ≡ largest_to (held_at l.shown.lines.now l.s) l.l)
