use Prim.Native.Nat.{◌*◌}
use mathlib.Core.Path.{◌≡◌}
use lib.ListN.{length}
use Rattle.table.specs.Limits.{most}
use Rattle.report.specs.Report.{past_rows}
use Rattle.stored.specs.Numbers.{number_size}
use Rattle.stored.proofs.WriteSteps.{put_keeps_length, list_begins, list_starts_within, list_has_room, list_ends_within, list_goes_on, list_ends}
use Rattle.offsets.specs.Figures.{row_count}
use Rattle.stored.proofs.Elements.{element_at}
use Rattle.offsets.proofs.FigureLaws.{row_bytes, length_row_bytes, eight_rows_have_room, rows_are_put}
use native.Mathlib.Omega.{arith}
use Rattle.offsets.proofs.figures.put_rows.Goals as goal

pub loop-row-init : goal.loop-row-init
loop-row-init c =
    list_begins row_bytes (element_at past_rows c.args.rows) c.args.free.now

pub slice_bounds-put_row-count : goal.slice_bounds-put_row-count
slice_bounds-put_row-count c =
    list_starts_within row_bytes (element_at past_rows c.args.rows) c.args.free.now most c.loop-row.row-index c.loop-row.at c.loop-row.free (omega arith) (eight_rows_have_room c.args.rows c.args.free.now c.well_formed.1.0.1.0.1 c.requires) c.loop-row.invariant

pub slice_bounds-put_row-start : goal.slice_bounds-put_row-start
slice_bounds-put_row-start c =
    list_starts_within row_bytes (element_at past_rows c.args.rows) c.args.free.now most c.loop-row.row-index c.loop-row.at c.loop-row.free (omega arith) (eight_rows_have_room c.args.rows c.args.free.now c.well_formed.1.0.1.0.1 c.requires) c.loop-row.invariant

pub put_row-at-requires : goal.put_row-at-requires
put_row-at-requires c =
    list_has_room row_bytes (element_at past_rows c.args.rows) c.args.free.now most c.loop-row.row-index c.loop-row.at c.loop-row.free (omega arith) (eight_rows_have_room c.args.rows c.args.free.now c.well_formed.1.0.1.0.1 c.requires) c.loop-row.invariant (number_size * row_count) (length_row_bytes (element_at past_rows c.args.rows c.loop-row.row-index))

pub overflow_add-at : goal.overflow_add-at
unfolding element_at row_bytes
overflow_add-at c =
    omega (
      arith,
      list_ends_within row_bytes (element_at past_rows c.args.rows) c.args.free.now most c.loop-row.row-index c.loop-row.at c.loop-row.free (omega arith) (eight_rows_have_room c.args.rows c.args.free.now c.well_formed.1.0.1.0.1 c.requires) c.loop-row.invariant c.put_row-at.new.free c.put_row-at.result c.put_row-at.ensures,
      c.well_formed.0.0,
    )

pub loop-row-preserved : goal.loop-row-preserved
unfolding element_at row_bytes
loop-row-preserved c =
    list_goes_on row_bytes (element_at past_rows c.args.rows) c.args.free.now most c.loop-row.row-index c.loop-row.at c.loop-row.free (omega arith) (eight_rows_have_room c.args.rows c.args.free.now c.well_formed.1.0.1.0.1 c.requires) c.loop-row.invariant c.put_row-at.new.free c.put_row-at.result c.put_row-at.ensures

pub shape_of-free : goal.shape_of-free
shape_of-free c =
    put_keeps_length c.args.free.now _ c.loop-row.free c.loop-row.at (list_ends row_bytes (element_at past_rows c.args.rows) c.args.free.now most c.loop-row.row-index c.loop-row.at c.loop-row.free (omega arith) (omega arith) c.loop-row.invariant) (eight_rows_have_room c.args.rows c.args.free.now c.well_formed.1.0.1.0.1 c.requires)

pub returns : goal.returns
returns c =
    let eight : length c.args.rows ≡ most = c.well_formed.1.0.1.0.1 in
    rows_are_put c.args.rows most eight c.args.free.now c.loop-row.free c.loop-row.at (list_ends row_bytes (element_at past_rows c.args.rows) c.args.free.now most c.loop-row.row-index c.loop-row.at c.loop-row.free (omega arith) (omega arith) c.loop-row.invariant)
