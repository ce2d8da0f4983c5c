-- The lines of the rows, one behind the other. Assumes nothing.
use Prim.Native.Nat.{ℕ, ◌+◌, ◌*◌, ◌≤◌, ◌<◌}
use native.Mathlib.Omega.{arith}
use mathlib.Core.Path.{◌≡◌, sym}
use mathlib.Core.List.{List}
use lib.ListN.{length, get_or}
use Rattle.lists.specs.Range.{join_to}
use Rattle.lines.specs.Puts.{Puts}
use Rattle.lines.specs.declared.Pen.{Pen}
use Rattle.lines.proofs.PutsLaws.{HasRoom, puts_same, puts_nothing}
use Rattle.lists.proofs.UpTo.{join_to_zero, join_to_suc, join_to_at_most}
use Rattle.table.specs.Limits.{most}
use Rattle.row.specs.declared.Row.{Row}
use Rattle.report.specs.Report.{past_rows}
use Rattle.wording.specs.Lines.{row_line}
use Rattle.text.specs.Text.{slot_line}
use Rattle.wording.specs.Room.{line_most}
use Rattle.wording.proofs.WroteLaws.{Run, run_on, run_room, run_length}
use Rattle.wording.proofs.LineLaws.{row_line_most}

module _ (rows : List Row) where
  pub slot_line_most : (s : ℕ) → length (slot_line rows s) ≤ line_most
  unfolding slot_line
  slot_line_most s = row_line_most s (get_or rows s past_rows)

  pub lines_most : (n : ℕ) → length (join_to (slot_line rows) n) ≤ n * line_most
  lines_most n = join_to_at_most (slot_line rows) n line_most (λ s h. slot_line_most s)

  module _ (p : Pen) where
    -- The lines of the first s rows were put.
    pub RowsTo : ℕ → Pen → Type 0
    RowsTo s q = Run p (s * line_most) (join_to (slot_line rows) s) q

    pub rows_begin : RowsTo 0 p
    unfolding RowsTo
    rows_begin = record { writes = puts_same (sym (join_to_zero (slot_line rows))) (puts_nothing p); small = lines_most 0 }

    module _ (s : ℕ) (q : Pen) (room : HasRoom p (most * line_most)) (h : s < most) (so_far : RowsTo s q) where
      pub room_for_row : HasRoom q line_most
      unfolding RowsTo
      room_for_row = run_room line_most (omega arith) so_far

      pub rows_go_on : (r : Pen) → Puts q (row_line s (get_or rows s past_rows)) r → RowsTo (s + 1) r
      unfolding RowsTo slot_line
      rows_go_on r w =
          record {
            writes = puts_same (sym (join_to_suc (slot_line rows) s)) (run_on (omega arith) so_far (slot_line_most s) w).writes;
            small = lines_most (s + 1);
          }

    pub rows_end : (n s : ℕ) (q : Pen) → s ≤ n → n ≤ s → RowsTo s q → Puts p (join_to (slot_line rows) n) q
    unfolding RowsTo
    rows_end n s q h g w = let e : s ≡ n = omega arith in rw e at w.writes

    pub rows_length : (s : ℕ) (q : Pen) → HasRoom p (most * line_most) → s ≤ most → RowsTo s q → length q.buf.now ≡ length p.buf.now
    unfolding RowsTo
    rows_length s q room h w = run_length (omega arith) w
