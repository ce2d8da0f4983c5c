-- `writer::put::put_header` meets its contract: the value stands behind tag and length, and makes the field with them.
-- Assumes nothing.
use native.Mathlib.Omega.{arith}
use Rattle.stored.proofs.FileLaws.{length_header_value}
use Rattle.stored.specs.File.{header_value}
use Rattle.stored.specs.Field.{start_size, header_length}
use Rattle.stored.proofs.WriteSteps.{free_starts_within, free_has_room, end_within, put_behind, put_the_same, length_start, field_of_start}
use Rattle.writer.proofs.put.put_header.Goals as goal

pub slice_bounds-put_header_value-count : goal.slice_bounds-put_header_value-count
slice_bounds-put_header_value-count c =
    free_starts_within c.args.free.now _ c.put_start-at.new.free c.put_start-at.result c.put_start-at.ensures start_size header_length (length_start 1 3) c.requires

pub slice_bounds-put_header_value-start : goal.slice_bounds-put_header_value-start
slice_bounds-put_header_value-start c =
    free_starts_within c.args.free.now _ c.put_start-at.new.free c.put_start-at.result c.put_start-at.ensures start_size header_length (length_start 1 3) c.requires

pub put_header_value-at-requires : goal.put_header_value-at-requires
put_header_value-at-requires c =
    free_has_room c.args.free.now _ c.put_start-at.new.free c.put_start-at.result c.put_start-at.ensures start_size header_length (length_start 1 3) c.requires

pub overflow_add-at : goal.overflow_add-at
overflow_add-at c =
    omega (arith, end_within c.args.free.now _ c.put_start-at.new.free c.put_start-at.result c.put_start-at.ensures start_size header_length (length_start 1 3) c.requires _ c.put_header_value-at.new.free c.put_header_value-at.result c.put_header_value-at.ensures (length_header_value c.args.n c.args.m), c.well_formed.0.0)

pub returns : goal.returns
returns c =
    put_the_same _ _ _ _ _ (field_of_start 1 (header_value c.args.n c.args.m) 3 (length_header_value c.args.n c.args.m)) (put_behind c.args.free.now _ c.put_start-at.new.free c.put_start-at.result c.put_start-at.ensures _ c.put_header_value-at.new.free c.put_header_value-at.result c.put_header_value-at.ensures)
