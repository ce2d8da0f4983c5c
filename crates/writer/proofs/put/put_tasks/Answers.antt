use native.Mathlib.Omega.{arith}
use Rattle.table.specs.declared.Task.{Task}
use Rattle.table.specs.Meaning.{past_tasks, task_m, task_at}
use Rattle.stored.specs.File.{task_field}
use Rattle.stored.specs.Field.{field_size, task_length}
use Rattle.stored.proofs.FileLaws.{length_task_at}
use Rattle.stored.proofs.WriteSteps.{among_the_first, bytes_of_element, put_the_same, list_begins, list_starts_within, list_has_room, list_ends_within, list_goes_on}
use Rattle.writer.proofs.put.put_tasks.Goals as goal

pub loop-task-init : goal.loop-task-init
loop-task-init c =
    list_begins task_field (task_at c.args.m c.args.sub) c.args.free.now

pub slice_bounds-put_task-count : goal.slice_bounds-put_task-count
slice_bounds-put_task-count c =
    list_starts_within task_field (task_at c.args.m c.args.sub) c.args.free.now c.args.sub.count c.loop-task.task-index c.loop-task.at c.loop-task.free (among_the_first c.from.result c.loop-task.task-index c.args.sub.tasks c.loop-task-test.true c.args.sub.count c.from.ensures) c.requires.count_in_bounds c.loop-task.invariant

pub slice_bounds-put_task-start : goal.slice_bounds-put_task-start
slice_bounds-put_task-start c =
    list_starts_within task_field (task_at c.args.m c.args.sub) c.args.free.now c.args.sub.count c.loop-task.task-index c.loop-task.at c.loop-task.free (among_the_first c.from.result c.loop-task.task-index c.args.sub.tasks c.loop-task-test.true c.args.sub.count c.from.ensures) c.requires.count_in_bounds c.loop-task.invariant

pub put_task-at-requires : goal.put_task-at-requires
put_task-at-requires c =
    (c.requires.m_le_most.0, list_has_room task_field (task_at c.args.m c.args.sub) c.args.free.now c.args.sub.count c.loop-task.task-index c.loop-task.at c.loop-task.free (among_the_first c.from.result c.loop-task.task-index c.args.sub.tasks c.loop-task-test.true c.args.sub.count c.from.ensures) c.requires.count_in_bounds c.loop-task.invariant (field_size (task_length c.args.m)) (length_task_at c.args.m c.args.sub c.loop-task.task-index))

pub overflow_add-at : goal.overflow_add-at
unfolding task_at
overflow_add-at c =
    omega (arith, list_ends_within task_field (task_at c.args.m c.args.sub) c.args.free.now c.args.sub.count c.loop-task.task-index c.loop-task.at c.loop-task.free (among_the_first c.from.result c.loop-task.task-index c.args.sub.tasks c.loop-task-test.true c.args.sub.count c.from.ensures) c.requires.count_in_bounds c.loop-task.invariant c.put_task-at.new.free c.put_task-at.result (put_the_same _ _ _ _ _ (bytes_of_element c.from.result c.loop-task.task-index c.args.sub.tasks c.loop-task-test.true (λ (u : Task). task_field (task_m c.args.m u)) past_tasks) c.put_task-at.ensures), c.well_formed.0.0)

pub loop-task-preserved : goal.loop-task-preserved
unfolding task_at
loop-task-preserved c =
    list_goes_on task_field (task_at c.args.m c.args.sub) c.args.free.now c.args.sub.count c.loop-task.task-index c.loop-task.at c.loop-task.free (among_the_first c.from.result c.loop-task.task-index c.args.sub.tasks c.loop-task-test.true c.args.sub.count c.from.ensures) c.requires.count_in_bounds c.loop-task.invariant c.put_task-at.new.free c.put_task-at.result (put_the_same _ _ _ _ _ (bytes_of_element c.from.result c.loop-task.task-index c.args.sub.tasks c.loop-task-test.true (λ (u : Task). task_field (task_m c.args.m u)) past_tasks) c.put_task-at.ensures)
