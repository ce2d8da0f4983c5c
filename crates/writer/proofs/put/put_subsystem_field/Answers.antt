-- `writer::put::put_subsystem_field` meets its contract: the value stands behind tag and length, and makes the field
-- with them. Assumes nothing.
use native.Mathlib.Omega.{arith}
use Rattle.stored.proofs.WriteSteps.{length_start, field_of_start, put_the_same}
use Rattle.stored.specs.File.{subsystem_value}
use Rattle.stored.specs.Field.{start_size, subsystem_length}
use Rattle.stored.proofs.FileLaws.{length_subsystem_value}
use Rattle.stored.proofs.WriteSteps.{free_starts_within, free_has_room, end_within, put_behind}
use Rattle.writer.proofs.put.put_subsystem_field.Goals as goal

pub slice_bounds-put_subsystem_value-count : goal.slice_bounds-put_subsystem_value-count
slice_bounds-put_subsystem_value-count c =
    free_starts_within c.args.free.now _ c.put_start-at.new.free c.put_start-at.result c.put_start-at.ensures start_size subsystem_length (length_start 2 9) c.requires

pub slice_bounds-put_subsystem_value-start : goal.slice_bounds-put_subsystem_value-start
slice_bounds-put_subsystem_value-start c =
    free_starts_within c.args.free.now _ c.put_start-at.new.free c.put_start-at.result c.put_start-at.ensures start_size subsystem_length (length_start 2 9) c.requires

pub put_subsystem_value-at-requires : goal.put_subsystem_value-at-requires
put_subsystem_value-at-requires c =
    free_has_room c.args.free.now _ c.put_start-at.new.free c.put_start-at.result c.put_start-at.ensures start_size subsystem_length (length_start 2 9) c.requires

pub overflow_add-at : goal.overflow_add-at
overflow_add-at c =
    omega (arith, end_within c.args.free.now _ c.put_start-at.new.free c.put_start-at.result c.put_start-at.ensures start_size subsystem_length (length_start 2 9) c.requires _ c.put_subsystem_value-at.new.free c.put_subsystem_value-at.result c.put_subsystem_value-at.ensures (length_subsystem_value c.args.sub.period c.args.sub.budget c.args.sub.count), c.well_formed.0.0)

pub returns : goal.returns
returns c =
    put_the_same _ _ _ _ _ (field_of_start 2 (subsystem_value c.args.sub.period c.args.sub.budget c.args.sub.count) 9 (length_subsystem_value c.args.sub.period c.args.sub.budget c.args.sub.count)) (put_behind c.args.free.now _ c.put_start-at.new.free c.put_start-at.result c.put_start-at.ensures _ c.put_subsystem_value-at.new.free c.put_subsystem_value-at.result c.put_subsystem_value-at.ensures)
