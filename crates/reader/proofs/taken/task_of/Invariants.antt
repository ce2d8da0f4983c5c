-- `reader::taken::task_of` meets its contract: the loop's invariant: the task with its first l accesses. Assumes nothing.
use mathlib.Core.Path.{◌≡◌}
use Rattle.table.specs.Grid.{task_in}
use Rattle.reader.proofs.TakenLaws.{task_up_to}
use Rattle.reader.proofs.taken.task_of.Given as goal

abbrev pub invariant-loop-l : goal.invariant-loop-l
invariant-loop-l l = l.task ≡ task_up_to (task_in l.m l.block l.i) l.l
