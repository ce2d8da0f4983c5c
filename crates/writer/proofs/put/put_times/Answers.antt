-- `writer::put::put_times` meets its contract: the deadline stands behind separation and work. Assumes nothing.
use native.Mathlib.Omega.{arith}
use Prim.Native.Nat.{◌*◌}
use Rattle.stored.specs.File.{times_bytes}
use Rattle.stored.specs.Numbers.{number_size}
use Rattle.stored.proofs.FileLaws.{length_number_bytes, length_pair}
use Rattle.stored.proofs.WriteSteps.{free_starts_within, free_has_room, end_within, put_behind}
use Rattle.writer.proofs.put.put_times.Goals as goal

pub slice_bounds-put_number-count : goal.slice_bounds-put_number-count
slice_bounds-put_number-count c =
    free_starts_within c.args.free.now _ c.put_pair-at.new.free c.put_pair-at.result c.put_pair-at.ensures (2 * number_size) number_size (length_pair c.args.task.separation c.args.task.work) c.requires

pub slice_bounds-put_number-start : goal.slice_bounds-put_number-start
slice_bounds-put_number-start c =
    free_starts_within c.args.free.now _ c.put_pair-at.new.free c.put_pair-at.result c.put_pair-at.ensures (2 * number_size) number_size (length_pair c.args.task.separation c.args.task.work) c.requires

pub put_number-at-requires : goal.put_number-at-requires
put_number-at-requires c =
    free_has_room c.args.free.now _ c.put_pair-at.new.free c.put_pair-at.result c.put_pair-at.ensures (2 * number_size) number_size (length_pair c.args.task.separation c.args.task.work) c.requires

pub overflow_add-at : goal.overflow_add-at
overflow_add-at c =
    omega (arith, end_within c.args.free.now _ c.put_pair-at.new.free c.put_pair-at.result c.put_pair-at.ensures (2 * number_size) number_size (length_pair c.args.task.separation c.args.task.work) c.requires _ c.put_number-at.new.free c.put_number-at.result c.put_number-at.ensures (length_number_bytes c.args.task.deadline), c.well_formed.0.0)

pub returns : goal.returns
unfolding times_bytes
returns c =
    put_behind c.args.free.now _ c.put_pair-at.new.free c.put_pair-at.result c.put_pair-at.ensures _ c.put_number-at.new.free c.put_number-at.result c.put_number-at.ensures
