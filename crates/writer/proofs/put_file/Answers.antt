-- `writer::put_file` meets its contract: the subsystems stand behind the header. Assumes nothing.
use native.Mathlib.Omega.{arith}
use lib.ListN.{length}
use mathlib.Core.Path.{refl}
use mathlib.Core.List.{flat_map}
use Rattle.table.specs.Meaning.{subsystem_at}
use Rattle.lists.specs.Range.{up_to}
use Rattle.stored.specs.File.{subsystem_bytes}
use Rattle.stored.specs.Field.{field_size, header_length}
use Rattle.stored.proofs.WriteSteps.{put_the_same}
use Rattle.stored.proofs.FileLaws.{length_header, length_file_parts, file_bytes}
use Rattle.stored.proofs.WriteSteps.{free_starts_within, free_has_room, end_within, put_behind}
use Rattle.writer.proofs.put_file.Goals as goal

pub put_header-at-requires : goal.put_header-at-requires
put_header-at-requires c =
    omega (arith, length_file_parts c.args.t, c.requires.t_in_bounds)

pub slice_bounds-put_subsystems-count : goal.slice_bounds-put_subsystems-count
slice_bounds-put_subsystems-count c =
    free_starts_within c.args.free.now _ c.put_header-at.new.free c.put_header-at.result c.put_header-at.ensures (field_size header_length) (length (flat_map subsystem_bytes (up_to (subsystem_at c.args.t) c.args.t.count))) (length_header c.args.t.count c.args.t.resources) (rw (← length_file_parts c.args.t) c.requires.t_in_bounds)

pub slice_bounds-put_subsystems-start : goal.slice_bounds-put_subsystems-start
slice_bounds-put_subsystems-start c =
    free_starts_within c.args.free.now _ c.put_header-at.new.free c.put_header-at.result c.put_header-at.ensures (field_size header_length) (length (flat_map subsystem_bytes (up_to (subsystem_at c.args.t) c.args.t.count))) (length_header c.args.t.count c.args.t.resources) (rw (← length_file_parts c.args.t) c.requires.t_in_bounds)

pub put_subsystems-at-requires : goal.put_subsystems-at-requires
put_subsystems-at-requires c =
    record { counted_table = c.requires.counted_table; count_in_bounds = free_has_room c.args.free.now _ c.put_header-at.new.free c.put_header-at.result c.put_header-at.ensures (field_size header_length) (length (flat_map subsystem_bytes (up_to (subsystem_at c.args.t) c.args.t.count))) (length_header c.args.t.count c.args.t.resources) (rw (← length_file_parts c.args.t) c.requires.t_in_bounds) }

pub overflow_add-at : goal.overflow_add-at
overflow_add-at c =
    omega (arith, end_within c.args.free.now _ c.put_header-at.new.free c.put_header-at.result c.put_header-at.ensures (field_size header_length) (length (flat_map subsystem_bytes (up_to (subsystem_at c.args.t) c.args.t.count))) (length_header c.args.t.count c.args.t.resources) (rw (← length_file_parts c.args.t) c.requires.t_in_bounds) _ c.put_subsystems-at.new.free c.put_subsystems-at.result c.put_subsystems-at.ensures refl, c.well_formed.0.0)

pub returns : goal.returns
returns c =
    put_the_same _ _ _ _ _ (file_bytes c.args.t) (put_behind c.args.free.now _ c.put_header-at.new.free c.put_header-at.result c.put_header-at.ensures _ c.put_subsystems-at.new.free c.put_subsystems-at.result c.put_subsystems-at.ensures)
