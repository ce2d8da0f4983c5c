use lib.ListN.{length}
use Rattle.stored.specs.Numbers.{number_size}
use Rattle.stored.specs.File.{number_bytes}
use Rattle.stored.proofs.FileLaws.{length_number_bytes}
use Rattle.stored.proofs.WriteSteps.{put_keeps_length, list_begins, list_starts_within, list_has_room, list_ends_within, list_goes_on, list_ends}
use Rattle.stored.proofs.Elements.{element_at, numbers_have_room, numbers_are_put}
use native.Mathlib.Omega.{arith}
use Rattle.stored.proofs.number.put_numbers.Goals as goal

pub loop-x-init : goal.loop-x-init
loop-x-init c =
    list_begins number_bytes (element_at 0 c.args.numbers.now) c.args.free.now

pub slice_bounds-put_number-count : goal.slice_bounds-put_number-count
slice_bounds-put_number-count c =
    list_starts_within number_bytes (element_at 0 c.args.numbers.now) c.args.free.now (length c.args.numbers.now) c.loop-x.x-index c.loop-x.at c.loop-x.free (omega arith) (numbers_have_room c.args.numbers.now c.args.free.now c.requires) c.loop-x.invariant

pub slice_bounds-put_number-start : goal.slice_bounds-put_number-start
slice_bounds-put_number-start c =
    list_starts_within number_bytes (element_at 0 c.args.numbers.now) c.args.free.now (length c.args.numbers.now) c.loop-x.x-index c.loop-x.at c.loop-x.free (omega arith) (numbers_have_room c.args.numbers.now c.args.free.now c.requires) c.loop-x.invariant

pub put_number-at-requires : goal.put_number-at-requires
put_number-at-requires c =
    list_has_room number_bytes (element_at 0 c.args.numbers.now) c.args.free.now (length c.args.numbers.now) c.loop-x.x-index c.loop-x.at c.loop-x.free (omega arith) (numbers_have_room c.args.numbers.now c.args.free.now c.requires) c.loop-x.invariant number_size (length_number_bytes (element_at 0 c.args.numbers.now c.loop-x.x-index))

pub overflow_add-at : goal.overflow_add-at
unfolding element_at
overflow_add-at c =
    omega (
      arith,
      list_ends_within number_bytes (element_at 0 c.args.numbers.now) c.args.free.now (length c.args.numbers.now) c.loop-x.x-index c.loop-x.at c.loop-x.free (omega arith) (numbers_have_room c.args.numbers.now c.args.free.now c.requires) c.loop-x.invariant c.put_number-at.new.free c.put_number-at.result c.put_number-at.ensures,
      c.well_formed.0.0,
    )

pub loop-x-preserved : goal.loop-x-preserved
unfolding element_at
loop-x-preserved c =
    list_goes_on number_bytes (element_at 0 c.args.numbers.now) c.args.free.now (length c.args.numbers.now) c.loop-x.x-index c.loop-x.at c.loop-x.free (omega arith) (numbers_have_room c.args.numbers.now c.args.free.now c.requires) c.loop-x.invariant c.put_number-at.new.free c.put_number-at.result c.put_number-at.ensures

pub shape_of-free : goal.shape_of-free
shape_of-free c =
    put_keeps_length c.args.free.now _ c.loop-x.free c.loop-x.at (list_ends number_bytes (element_at 0 c.args.numbers.now) c.args.free.now (length c.args.numbers.now) c.loop-x.x-index c.loop-x.at c.loop-x.free (omega arith) (omega arith) c.loop-x.invariant) (numbers_have_room c.args.numbers.now c.args.free.now c.requires)

pub returns : goal.returns
returns c =
    numbers_are_put c.args.numbers.now c.args.free.now c.loop-x.free c.loop-x.at (list_ends number_bytes (element_at 0 c.args.numbers.now) c.args.free.now (length c.args.numbers.now) c.loop-x.x-index c.loop-x.at c.loop-x.free (omega arith) (omega arith) c.loop-x.invariant)
