-- How long the lines and their parts are. Assumes nothing.
use Prim.Native.Nat.{ℕ, ◌+◌, ◌≤◌}
use native.Mathlib.Omega.{arith}
use mathlib.Core.List.{List, ◌++◌}
use lib.ListN.{length, length-append}
use Rattle.lines.specs.Decimal.{decimal}
use Rattle.lines.specs.Words.{word}
use Rattle.lines.proofs.DecimalLaws.{decimal_at_most_ten}
use Rattle.row.specs.declared.Outcome.{Outcome}
use Rattle.row.specs.declared.Outcome.TheVariants.{Fits, Late, None}
use Rattle.row.specs.declared.Row.{Row}
use Rattle.row.specs.Row.{reported}
use Rattle.wording.specs.Lines.{figure, outcome_word, row_start, row_end, row_line}
use Rattle.wording.specs.Room.{start_most, end_most, line_most}

-- A word and a number behind it.
pub figure_most : (label : List ℕ) (n : ℕ) → length (label ++ decimal n) ≤ length label + 10
figure_most label n = simp length-append (omega (arith, decimal_at_most_ten n))

pub outcome_word_most : (o : Outcome) → length (outcome_word o) ≤ 6
unfolding word
outcome_word_most (Fits r) = omega arith
outcome_word_most (Late r) = omega arith
outcome_word_most None = omega arith

pub row_start_most : (s : ℕ) (row : Row) → length (row_start s row) ≤ start_most
unfolding row_start figure word
row_start_most s row =
    simp length-append
    (omega (arith, decimal_at_most_ten (s + 1), decimal_at_most_ten row.holding, decimal_at_most_ten row.failing, decimal_at_most_ten row.blocking, decimal_at_most_ten row.active))

pub row_end_most : (row : Row) → length (row_end row) ≤ end_most
unfolding row_end figure word
row_end_most row =
    simp length-append
    (omega (arith, decimal_at_most_ten row.jobs, decimal_at_most_ten (reported row.outcome), decimal_at_most_ten row.job, decimal_at_most_ten row.resource, outcome_word_most row.outcome))

pub row_line_most : (s : ℕ) (row : Row) → length (row_line s row) ≤ line_most
unfolding row_line
row_line_most s row = simp length-append (omega (arith, row_start_most s row, row_end_most row))
