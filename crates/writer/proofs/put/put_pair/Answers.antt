-- `writer::put::put_pair` meets its contract: the second number stands behind the first. Assumes nothing.
use native.Mathlib.Omega.{arith}
use Rattle.stored.specs.Numbers.{number_size}
use Rattle.stored.proofs.FileLaws.{length_number_bytes}
use Rattle.stored.proofs.WriteSteps.{free_starts_within, free_has_room, end_within, put_behind}
use Rattle.writer.proofs.put.put_pair.Goals as goal

pub slice_bounds-put_number-count : goal.slice_bounds-put_number-count
slice_bounds-put_number-count c =
    free_starts_within c.args.free.now _ c.put_number-at.new.free c.put_number-at.result c.put_number-at.ensures number_size number_size (length_number_bytes c.args.x) c.requires

pub slice_bounds-put_number-start : goal.slice_bounds-put_number-start
slice_bounds-put_number-start c =
    free_starts_within c.args.free.now _ c.put_number-at.new.free c.put_number-at.result c.put_number-at.ensures number_size number_size (length_number_bytes c.args.x) c.requires

pub put_number-at-requires-2 : goal.put_number-at-requires-2
put_number-at-requires-2 c =
    free_has_room c.args.free.now _ c.put_number-at.new.free c.put_number-at.result c.put_number-at.ensures number_size number_size (length_number_bytes c.args.x) c.requires

pub overflow_add-at : goal.overflow_add-at
overflow_add-at c =
    omega (arith, end_within c.args.free.now _ c.put_number-at.new.free c.put_number-at.result c.put_number-at.ensures number_size number_size (length_number_bytes c.args.x) c.requires _ c.put_number-at-2.new.free c.put_number-at-2.result c.put_number-at-2.ensures (length_number_bytes c.args.y), c.well_formed.0.0)

pub returns : goal.returns
returns c =
    put_behind c.args.free.now _ c.put_number-at.new.free c.put_number-at.result c.put_number-at.ensures _ c.put_number-at-2.new.free c.put_number-at-2.result c.put_number-at-2.ensures
