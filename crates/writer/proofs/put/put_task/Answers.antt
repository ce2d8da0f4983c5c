-- `writer::put::put_task` meets its contract: the value stands behind tag and length, and makes the field with them.
-- Assumes nothing.
use native.Mathlib.Omega.{arith}
use Rattle.stored.proofs.FileLaws.{length_task_value}
use Rattle.table.specs.Meaning.{task_m}
use Rattle.stored.specs.File.{task_value, task_field}
use Rattle.stored.specs.Field.{start_size, task_length}
use Rattle.stored.proofs.WriteSteps.{free_starts_within, free_has_room, end_within, put_behind, put_the_same, length_start, field_of_start}
use Rattle.writer.proofs.put.put_task.Goals as goal

pub slice_bounds-put_task_value-count : goal.slice_bounds-put_task_value-count
slice_bounds-put_task_value-count c =
    free_starts_within c.args.free.now _ c.put_start-at.new.free c.put_start-at.result c.put_start-at.ensures start_size (task_length c.args.m) (length_start 3 (task_length c.args.m)) c.requires.1

pub slice_bounds-put_task_value-start : goal.slice_bounds-put_task_value-start
slice_bounds-put_task_value-start c =
    free_starts_within c.args.free.now _ c.put_start-at.new.free c.put_start-at.result c.put_start-at.ensures start_size (task_length c.args.m) (length_start 3 (task_length c.args.m)) c.requires.1

pub put_task_value-at-requires : goal.put_task_value-at-requires
put_task_value-at-requires c =
    (c.requires.0, free_has_room c.args.free.now _ c.put_start-at.new.free c.put_start-at.result c.put_start-at.ensures start_size (task_length c.args.m) (length_start 3 (task_length c.args.m)) c.requires.1)

pub overflow_add-at : goal.overflow_add-at
overflow_add-at c =
    omega (arith, end_within c.args.free.now _ c.put_start-at.new.free c.put_start-at.result c.put_start-at.ensures start_size (task_length c.args.m) (length_start 3 (task_length c.args.m)) c.requires.1 _ c.put_task_value-at.new.free c.put_task_value-at.result c.put_task_value-at.ensures (length_task_value c.args.m c.args.task), c.well_formed.0.0)

pub returns : goal.returns
unfolding task_field
returns c =
    put_the_same _ _ _ _ _ (field_of_start 3 (task_value (task_m c.args.m c.args.task)) (task_length c.args.m) (length_task_value c.args.m c.args.task)) (put_behind c.args.free.now _ c.put_start-at.new.free c.put_start-at.result c.put_start-at.ensures _ c.put_task_value-at.new.free c.put_task_value-at.result c.put_task_value-at.ensures)
