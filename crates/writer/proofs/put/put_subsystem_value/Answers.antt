-- `writer::put::put_subsystem_value` meets its contract: the count stands behind period and budget. Assumes nothing.
use native.Mathlib.Omega.{arith}
use Prim.Native.Nat.{◌*◌}
use mathlib.Core.Path.{refl}
use Rattle.stored.specs.File.{subsystem_value}
use Rattle.stored.specs.Numbers.{number_size}
use Rattle.stored.proofs.FileLaws.{length_pair}
use Rattle.stored.proofs.WriteSteps.{free_starts_within, free_has_room, end_within, put_behind}
use Rattle.writer.proofs.put.put_subsystem_value.Goals as goal

pub slice_bounds-put_byte-count : goal.slice_bounds-put_byte-count
slice_bounds-put_byte-count c =
    free_starts_within c.args.free.now _ c.put_pair-at.new.free c.put_pair-at.result c.put_pair-at.ensures (2 * number_size) 1 (length_pair c.args.sub.period c.args.sub.budget) c.requires

pub slice_bounds-put_byte-start : goal.slice_bounds-put_byte-start
slice_bounds-put_byte-start c =
    free_starts_within c.args.free.now _ c.put_pair-at.new.free c.put_pair-at.result c.put_pair-at.ensures (2 * number_size) 1 (length_pair c.args.sub.period c.args.sub.budget) c.requires

pub put_byte-at-requires : goal.put_byte-at-requires
put_byte-at-requires c =
    free_has_room c.args.free.now _ c.put_pair-at.new.free c.put_pair-at.result c.put_pair-at.ensures (2 * number_size) 1 (length_pair c.args.sub.period c.args.sub.budget) c.requires

pub overflow_add-at : goal.overflow_add-at
overflow_add-at c =
    omega (arith, end_within c.args.free.now _ c.put_pair-at.new.free c.put_pair-at.result c.put_pair-at.ensures (2 * number_size) 1 (length_pair c.args.sub.period c.args.sub.budget) c.requires _ c.put_byte-at.new.free c.put_byte-at.result c.put_byte-at.ensures refl, c.well_formed.0.0)

pub returns : goal.returns
unfolding subsystem_value
returns c =
    put_behind c.args.free.now _ c.put_pair-at.new.free c.put_pair-at.result c.put_pair-at.ensures _ c.put_byte-at.new.free c.put_byte-at.result c.put_byte-at.ensures
