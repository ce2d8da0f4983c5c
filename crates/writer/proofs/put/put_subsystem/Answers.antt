-- `writer::put::put_subsystem` meets its contract: the tasks stand behind the subsystem's own field. Assumes nothing.
use native.Mathlib.Omega.{arith}
use lib.ListN.{length}
use mathlib.Core.Path.{refl}
use mathlib.Core.List.{flat_map}
use Rattle.table.specs.Meaning.{task_at}
use Rattle.lists.specs.Range.{up_to}
use Rattle.stored.specs.File.{task_field}
use Rattle.stored.specs.Field.{field_size, subsystem_length}
use Rattle.stored.proofs.WriteSteps.{put_the_same}
use Rattle.stored.proofs.FileLaws.{length_subsystem_field, length_subsystem_parts, subsystem_bytes_lem}
use Rattle.stored.proofs.WriteSteps.{free_starts_within, free_has_room, end_within, put_behind}
use Rattle.writer.proofs.put.put_subsystem.Goals as goal

pub put_subsystem_field-at-requires : goal.put_subsystem_field-at-requires
put_subsystem_field-at-requires c =
    omega (arith, length_subsystem_parts c.args.m c.args.sub, c.requires.sub_in_bounds)

pub slice_bounds-put_tasks-count : goal.slice_bounds-put_tasks-count
slice_bounds-put_tasks-count c =
    free_starts_within c.args.free.now _ c.put_subsystem_field-at.new.free c.put_subsystem_field-at.result c.put_subsystem_field-at.ensures (field_size subsystem_length) (length (flat_map task_field (up_to (task_at c.args.m c.args.sub) c.args.sub.count))) (length_subsystem_field c.args.sub.period c.args.sub.budget c.args.sub.count) (rw (← length_subsystem_parts c.args.m c.args.sub) c.requires.sub_in_bounds)

pub slice_bounds-put_tasks-start : goal.slice_bounds-put_tasks-start
slice_bounds-put_tasks-start c =
    free_starts_within c.args.free.now _ c.put_subsystem_field-at.new.free c.put_subsystem_field-at.result c.put_subsystem_field-at.ensures (field_size subsystem_length) (length (flat_map task_field (up_to (task_at c.args.m c.args.sub) c.args.sub.count))) (length_subsystem_field c.args.sub.period c.args.sub.budget c.args.sub.count) (rw (← length_subsystem_parts c.args.m c.args.sub) c.requires.sub_in_bounds)

pub put_tasks-at-requires : goal.put_tasks-at-requires
put_tasks-at-requires c =
    record { m_le_most = c.requires.m_le_most; count_in_bounds = free_has_room c.args.free.now _ c.put_subsystem_field-at.new.free c.put_subsystem_field-at.result c.put_subsystem_field-at.ensures (field_size subsystem_length) (length (flat_map task_field (up_to (task_at c.args.m c.args.sub) c.args.sub.count))) (length_subsystem_field c.args.sub.period c.args.sub.budget c.args.sub.count) (rw (← length_subsystem_parts c.args.m c.args.sub) c.requires.sub_in_bounds) }

pub overflow_add-at : goal.overflow_add-at
overflow_add-at c =
    omega (arith, end_within c.args.free.now _ c.put_subsystem_field-at.new.free c.put_subsystem_field-at.result c.put_subsystem_field-at.ensures (field_size subsystem_length) (length (flat_map task_field (up_to (task_at c.args.m c.args.sub) c.args.sub.count))) (length_subsystem_field c.args.sub.period c.args.sub.budget c.args.sub.count) (rw (← length_subsystem_parts c.args.m c.args.sub) c.requires.sub_in_bounds) _ c.put_tasks-at.new.free c.put_tasks-at.result c.put_tasks-at.ensures refl, c.well_formed.0.0)

pub returns : goal.returns
returns c =
    put_the_same _ _ _ _ _ (subsystem_bytes_lem c.args.m c.args.sub) (put_behind c.args.free.now _ c.put_subsystem_field-at.new.free c.put_subsystem_field-at.result c.put_subsystem_field-at.ensures _ c.put_tasks-at.new.free c.put_tasks-at.result c.put_tasks-at.ensures)
