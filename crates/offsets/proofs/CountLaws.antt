-- How many figures a file's report has, whatever the file: five, and nine for each of eight rows. Assumes nothing.
use Prim.Native.Nat.{ℕ, ◌+◌, ◌*◌}
use mathlib.Core.Path.{◌≡◌, refl, ap, ap₂, ◌∙◌}
use mathlib.Core.Bool.{Bool}
use mathlib.Core.List.{List, flat_map}
use lib.ListN.{length, length-append, length-replicate}
use Rattle.std.specs.Prelude.{Ok, Err}
use Rattle.lists.proofs.UpTo.{length_padded}
use Rattle.table.specs.Limits.{most}
use Rattle.table.specs.Meaning.{System, meaning}
use Rattle.table.specs.Parts.{subsystem_count}
use Rattle.rules.specs.Judged.{Judged}
use Rattle.rules.specs.Rules.{judge_of}
use Rattle.rules.proofs.Sound.{admitted_is_sound}
use Rattle.row.specs.declared.Row.{Row}
use Rattle.rows.specs.Rows.{row_at, no_row}
use Rattle.report.specs.Report.{report_for, report_of}
use Rattle.stored.specs.Answers.{ReadAnswer}
use Rattle.stored.specs.File.{number_bytes}
use Rattle.stored.specs.Numbers.{number_size}
use Rattle.stored.specs.Read.{read_of}
use Rattle.stored.proofs.FileLaws.{length_flat_map, length_accesses}
use Rattle.offsets.specs.declared.Judgement.{Judgement}
use Rattle.offsets.specs.Figures.{row_figures, head_figures, figures, figures_of, figures_for, figures_in, head_count, row_count, report_size}
use Rattle.offsets.proofs.FigureLaws.{count_of_head, count_of_row}

-- A report has eight rows.
pub rows_are_eight : (sys : System) → length (report_of sys).rows ≡ most
unfolding report_of
rows_are_eight sys = by_cases (judge_of sys) refl
  where
    by_cases : (j : Judged) → judge_of sys ≡ j → length (report_for j sys).rows ≡ most
    by_cases (Err r) e = length-replicate most no_row
    by_cases (Ok _) e =
        length_padded (row_at sys) no_row most (subsystem_count sys) (admitted_is_sound sys e).subsystems_most

module _ (j : Judgement) (accepted : Bool) (n : ℕ) (rows : List Row) where
  count_of_figures : length rows ≡ most → length (figures j accepted n rows) ≡ head_count + most * row_count
  unfolding figures
  count_of_figures e =
      length-append (head_figures j accepted n) (flat_map row_figures rows) ∙
      ap₂ (λ (a b : ℕ). a + b) (count_of_head j accepted n)
      (length_flat_map row_figures row_count count_of_row rows ∙ ap (λ (k : ℕ). k * row_count) e)

pub count_of_file_figures : (file : List ℕ) → length (figures_in file) ≡ head_count + most * row_count
unfolding figures_in figures_of
count_of_file_figures file = by_cases (read_of file).answer
  where
    by_cases : (a : ReadAnswer) → length (figures_for a (meaning (read_of file).table)) ≡ head_count + most * row_count
    by_cases (Err r) = count_of_figures _ _ _ _ (length-replicate most no_row)
    by_cases (Ok _) = count_of_figures _ _ _ _ (rows_are_eight (meaning (read_of file).table))

-- So many bytes they take.
pub length_of_file_figures : (file : List ℕ) → length (flat_map number_bytes (figures_in file)) ≡ report_size
length_of_file_figures file =
    length_accesses (figures_in file) ∙ ap (λ (k : ℕ). number_size * k) (count_of_file_figures file)
