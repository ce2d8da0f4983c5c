-- Where each figure stands in a caller's buffer: figure k at offset 4 × k, and figure i of the row of subsystem s + 1 at
-- offset 20 + 36 × s + 4 × i. And that a refused file or table has zero in every other figure. Assumes nothing.
use Prim.Native.Nat.{ℕ, zero, suc, ◌+◌, ◌*◌, ◌≤◌, ◌<◌}
use native.Mathlib.Nat.{suc-mul, zero-mul}
use native.Mathlib.Omega.{arith}
use borrow.Author.Tests.{le-ltb}
use mathlib.Core.Path.{◌≡◌, refl, sym, ap, ◌∙◌}
use mathlib.Core.List.{List, [], ◌∷◌, ◌++◌, flat_map}
use lib.ListN.{length, get_or, take, drop, replicate, length-drop}
use lib.Seq.{take_at, take-append-le, drop-append-le, drop-append-add, get_or-append-add, get_or-drop, get_or-take}
use Rattle.table.specs.Limits.{most}
use Rattle.table.specs.Meaning.{System, meaning}
use Rattle.table.specs.Parts.{subsystem_count}
use Rattle.rules.specs.declared.Rule.{Rule}
use Rattle.rules.specs.declared.Place.{Place}
use Rattle.rules.specs.Judged.{refused}
use Rattle.rules.specs.Refusal.{number_of}
use Rattle.rules.specs.Rules.{judge_of}
use Rattle.report.specs.Report.{past_rows, report_of}
use Rattle.stored.specs.declared.Fault.{Fault}
use Rattle.stored.specs.Answers.{whole, refused as refused_file}
use Rattle.stored.specs.Numbers.{number_size}
use Rattle.stored.specs.File.{number_bytes}
use Rattle.stored.specs.Judge.{fault_number}
use Rattle.stored.specs.Read.{read_of}
use Rattle.stored.specs.Write.{written}
use Rattle.stored.proofs.FileLaws.{length_number_bytes}
use Rattle.offsets.specs.Judgement.{table_judgement}
use Rattle.offsets.specs.Figures.{row_figures, head_figures, figures, counted, figures_of, figures_in, head_count, row_count, report_size}
use Rattle.bay.specs.Lent.{lent, figures_after}
use Rattle.offsets.proofs.FigureLaws.{count_of_row}
use Rattle.offsets.proofs.CountLaws.{rows_are_eight, count_of_file_figures, length_of_file_figures}

------------------------------------------------------------------------
-- Parts of one length, joined

module _ {A B : Type 0} (g : A → List B) (k : ℕ) (each : (x : A) → length (g x) ≡ k) where
  -- Part i starts behind i parts.
  pub part_of_joined : (d : A) (xs : List A) (i : ℕ) → i < length xs → take k (drop (i * k) (flat_map g xs)) ≡ g (get_or xs i d)
  unfolding flat_map
  part_of_joined d [] i h = absurd (omega arith)
  part_of_joined d (x ∷ xs) zero h = rw (zero-mul k) (take_at (g x) (flat_map g xs) k (each x))
  part_of_joined d (x ∷ xs) (suc i) h =
      let past : suc i * k ≡ length (g x) + i * k = omega (arith, suc-mul i k, each x) in
      ap (take k)
      (ap (λ (n : ℕ). drop n (g x ++ flat_map g xs)) past ∙
      drop-append-add (g x) (flat_map g xs) (i * k)) ∙
      part_of_joined d xs i (omega arith)

------------------------------------------------------------------------
-- Where a figure stands

module _ (file buf : List ℕ) (room : report_size ≤ length buf) where
  all_figures : figures_after file buf ≡ flat_map number_bytes (figures_in file) ++ drop report_size buf
  unfolding figures_after lent written
  all_figures =
      rw (le-ltb (length buf) report_size room)
      (ap (λ (n : ℕ). flat_map number_bytes (figures_in file) ++ drop n buf) (length_of_file_figures file))

  -- Figure k is the number of four bytes at offset 4 × k.
  pub figure_stands :
      (k : ℕ) → k < head_count + most * row_count →
      take number_size (drop (k * number_size) (figures_after file buf)) ≡ number_bytes (get_or (figures_in file) k 0)
  figure_stands k h =
      let bytes = flat_map number_bytes (figures_in file) in
      let n = count_of_file_figures file in
      ap (λ (l : List ℕ). take number_size (drop (k * number_size) l)) all_figures ∙
      ap (take number_size) (drop-append-le (k * number_size) bytes (drop report_size buf) (omega (arith, length_of_file_figures file))) ∙
      take-append-le number_size (drop (k * number_size) bytes) (drop report_size buf)
      (omega (arith, length-drop (k * number_size) bytes, length_of_file_figures file)) ∙
      part_of_joined number_bytes number_size length_number_bytes 0 (figures_in file) k (omega (arith, n))

------------------------------------------------------------------------
-- The figures of a file that is a table

module _ (file : List ℕ) (is_whole : (read_of file).answer ≡ whole) where
  abbrev sys : System
  sys = meaning (read_of file).table

  figures_of_table : figures_in file ≡ figures_of (report_of sys) (subsystem_count sys)
  unfolding figures_in
  figures_of_table = rw is_whole refl

  -- Figure i of the row in slot s is figure 5 + 9 × s + i.
  pub row_figure :
      (s i : ℕ) → s < most → i < row_count →
      get_or (figures_in file) (head_count + (s * row_count + i)) 0 ≡ get_or (row_figures (get_or (report_of sys).rows s past_rows)) i 0
  unfolding figures_of figures head_figures
  row_figure s i h l =
      let report = report_of sys in
      let head = head_figures (table_judgement report.judged) report.accepted (counted report.judged (subsystem_count sys)) in
      let rest = flat_map row_figures report.rows in
      ap (λ (xs : List ℕ). get_or xs (head_count + (s * row_count + i)) 0) figures_of_table ∙
      get_or-append-add head rest (s * row_count + i) 0 ∙
      sym (get_or-drop (s * row_count) rest i 0) ∙
      sym (get_or-take row_count (drop (s * row_count) rest) i 0 l) ∙
      ap (λ (xs : List ℕ). get_or xs i 0)
      (part_of_joined row_figures row_count count_of_row past_rows report.rows s (omega (arith, rows_are_eight sys)))

  -- A refused table: number and place, and 74 zeros.
  pub refused_table_figures :
      (k : Rule) (p : Place) → judge_of sys ≡ refused k p →
      figures_in file ≡ number_of k ∷ p.subsystem ∷ p.task ∷ replicate 74 0
  unfolding figures_of figures head_figures row_figures table_judgement report_of flat_map
  refused_table_figures k p e = figures_of_table ∙ rw e refl

-- A refused file: number and offset, and 75 zeros.
pub refused_file_figures :
    (file : List ℕ) (f : Fault) (at : ℕ) → (read_of file).answer ≡ refused_file f at →
    figures_in file ≡ fault_number f ∷ at ∷ replicate 75 0
unfolding figures_in figures head_figures row_figures flat_map
refused_file_figures file f at e = rw e refl
