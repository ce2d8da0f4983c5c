-- `local::blocking::task_blockings` meets its contract. The loop's invariant: the blockings are those by the first l resources. Assumes
-- nothing.
use mathlib.Core.Path.{◌≡◌}
use Rattle.lists.specs.Range.{padded}
use Rattle.table.specs.Limits.{most}
use Rattle.table.specs.Grid.{count_in, subsystem_in}
use Rattle.local.specs.Blocking.{task_blocking}
use Rattle.local.proofs.blocking.task_blockings.Given as goal

abbrev pub invariant-loop-l : goal.invariant-loop-l
invariant-loop-l l = l.blockings ≡ padded (task_blocking l.l (subsystem_in l.part.m l.part.block.now)) 0 most (count_in l.part.block.now)
