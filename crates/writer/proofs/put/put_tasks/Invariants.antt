-- `writer::put::put_tasks` meets its contract: the loop's invariant: the first tasks are put. Assumes nothing.
use mathlib.Core.List.{flat_map}
use Rattle.table.specs.Meaning.{task_at}
use Rattle.lists.specs.Range.{up_to}
use Rattle.stored.specs.Write.{IsPut}
use Rattle.stored.specs.File.{task_field}
use Rattle.writer.proofs.put.put_tasks.Given as goal

abbrev pub invariant-loop-task : goal.invariant-loop-task
invariant-loop-task l = IsPut (flat_map task_field (up_to (task_at l.m l.fn.sub) l.task-index)) l.initial.free l.free l.at
