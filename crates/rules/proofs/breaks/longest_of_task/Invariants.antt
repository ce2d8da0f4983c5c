-- `rules::breaks::longest_of_task` meets its contract. Assumes nothing.
use mathlib.Core.Path.{◌≡◌}
use Rattle.lists.specs.Range.{largest_to}
use Rattle.table.specs.Grid.{access_in}
use Rattle.rules.proofs.breaks.longest_of_task.Given as goal

abbrev pub invariant-loop-l : goal.invariant-loop-l
invariant-loop-l l = l.longest ≡ largest_to (access_in l.block l.i) l.l
