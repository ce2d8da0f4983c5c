-- `offsets::figures::put_figures` meets its contract: the rows are put behind the head. Assumes nothing.
use Prim.Native.Nat.{◌*◌}
use Rattle.table.specs.Limits.{most}
use Rattle.stored.specs.Numbers.{number_size}
use Rattle.stored.proofs.WriteSteps.{free_starts_within, free_has_room, end_within, put_behind, put_the_same}
use Rattle.offsets.specs.Figures.{head_count, row_count}
use Rattle.offsets.proofs.FigureLaws.{length_head_bytes, length_rows, head_then_rows}
use native.Mathlib.Omega.{arith}
use Rattle.offsets.proofs.figures.put_figures.Goals as goal

pub slice_bounds-put_rows-count : goal.slice_bounds-put_rows-count
slice_bounds-put_rows-count c =
    free_starts_within c.args.free.now _ c.put_head-at.new.free c.put_head-at.result c.put_head-at.ensures (number_size * head_count) (most * (number_size * row_count)) (length_head_bytes c.args.j c.args.accepted c.args.n) c.requires

pub slice_bounds-put_rows-start : goal.slice_bounds-put_rows-start
slice_bounds-put_rows-start c =
    free_starts_within c.args.free.now _ c.put_head-at.new.free c.put_head-at.result c.put_head-at.ensures (number_size * head_count) (most * (number_size * row_count)) (length_head_bytes c.args.j c.args.accepted c.args.n) c.requires

pub put_rows-at-requires : goal.put_rows-at-requires
put_rows-at-requires c =
    free_has_room c.args.free.now _ c.put_head-at.new.free c.put_head-at.result c.put_head-at.ensures (number_size * head_count) (most * (number_size * row_count)) (length_head_bytes c.args.j c.args.accepted c.args.n) c.requires

pub overflow_add-at : goal.overflow_add-at
overflow_add-at c =
    omega (
      arith,
      end_within c.args.free.now _ c.put_head-at.new.free c.put_head-at.result c.put_head-at.ensures (number_size * head_count) (most * (number_size * row_count)) (length_head_bytes c.args.j c.args.accepted c.args.n) c.requires _ c.put_rows-at.new.free c.put_rows-at.result c.put_rows-at.ensures (length_rows c.args.rows most c.well_formed.1.1.1.1.0.1.0.1),
      c.well_formed.0.0,
    )

pub returns : goal.returns
returns c =
    put_the_same _ _ c.args.free.now _ _ (head_then_rows c.args.j c.args.accepted c.args.n c.args.rows)
    (put_behind c.args.free.now _ c.put_head-at.new.free c.put_head-at.result c.put_head-at.ensures _ c.put_rows-at.new.free c.put_rows-at.result c.put_rows-at.ensures)
