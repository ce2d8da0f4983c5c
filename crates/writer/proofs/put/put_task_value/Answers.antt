-- `writer::put::put_task_value` meets its contract: the accesses stand behind the times. Assumes nothing.
use native.Mathlib.Omega.{arith}
use Prim.Native.Nat.{◌*◌}
use Rattle.table.specs.Meaning.{task_m}
use Rattle.stored.specs.Field.{task_length}
use Rattle.stored.specs.File.{task_value}
use Rattle.stored.specs.Numbers.{number_size}
use Rattle.stored.proofs.FileLaws.{length_times, length_access_bytes}
use Rattle.stored.proofs.WriteSteps.{free_starts_within, free_has_room, end_within, put_behind}
use Rattle.writer.proofs.put.put_task_value.Goals as goal

pub slice_bounds-put_accesses-count : goal.slice_bounds-put_accesses-count
slice_bounds-put_accesses-count c =
    free_starts_within c.args.free.now _ c.put_times-at.new.free c.put_times-at.result c.put_times-at.ensures (task_length 0) (number_size * c.args.m) (length_times c.args.task.separation c.args.task.work c.args.task.deadline) c.requires.1

pub slice_bounds-put_accesses-start : goal.slice_bounds-put_accesses-start
slice_bounds-put_accesses-start c =
    free_starts_within c.args.free.now _ c.put_times-at.new.free c.put_times-at.result c.put_times-at.ensures (task_length 0) (number_size * c.args.m) (length_times c.args.task.separation c.args.task.work c.args.task.deadline) c.requires.1

pub put_accesses-at-requires : goal.put_accesses-at-requires
put_accesses-at-requires c =
    (c.requires.0, rw length_access_bytes (free_has_room c.args.free.now _ c.put_times-at.new.free c.put_times-at.result c.put_times-at.ensures (task_length 0) (number_size * c.args.m) (length_times c.args.task.separation c.args.task.work c.args.task.deadline) c.requires.1))

pub overflow_add-at : goal.overflow_add-at
overflow_add-at c =
    omega (arith, end_within c.args.free.now _ c.put_times-at.new.free c.put_times-at.result c.put_times-at.ensures (task_length 0) (number_size * c.args.m) (length_times c.args.task.separation c.args.task.work c.args.task.deadline) c.requires.1 _ c.put_accesses-at.new.free c.put_accesses-at.result c.put_accesses-at.ensures (length_access_bytes c.args.task c.args.m), c.well_formed.0.0)

pub returns : goal.returns
unfolding task_m task_value
returns c =
    put_behind c.args.free.now _ c.put_times-at.new.free c.put_times-at.result c.put_times-at.ensures _ c.put_accesses-at.new.free c.put_accesses-at.result c.put_accesses-at.ensures
