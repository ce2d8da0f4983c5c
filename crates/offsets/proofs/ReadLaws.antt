-- The figures of a file by its answer: refused, or a table. Assumes nothing.
use Prim.Native.Nat.{ℕ}
use mathlib.Core.Path.{◌≡◌, sym, ap, ap₂, ◌∙◌}
use mathlib.Core.Bool.{false}
use mathlib.Core.List.{List}
use Rattle.std.specs.Prelude.{Err}
use lib.ListN.{replicate}
use Rattle.table.specs.Limits.{most}
use Rattle.table.specs.Meaning.{System, meaning}
use Rattle.table.specs.Parts.{subsystem_count}
use Rattle.row.specs.declared.Row.{Row}
use Rattle.report.specs.declared.Report.{Report}
use Rattle.rows.specs.Rows.{no_row}
use Rattle.report.specs.Report.{report_of}
use Rattle.stored.specs.declared.Misread.{Misread}
use Rattle.stored.specs.declared.FileRefusal.{FileRefusal}
use Rattle.stored.specs.Answers.{ReadAnswer, whole}
use Rattle.stored.specs.Read.{file_refusal, read_of}
use Rattle.offsets.specs.declared.Judgement.{Judgement}
use Rattle.offsets.specs.Judgement.{file_judgement}
use Rattle.offsets.specs.Figures.{figures, figures_of, figures_for, figures_in}
use Rattle.offsets.proofs.JudgementLaws.{answer_of}

-- The figures of a refused file, and of a file that is a table.
module _ (file : List ℕ) (answer : ReadAnswer) (e : answer ≡ (read_of file).answer) where
  pub refused_figures :
      (why : Misread) (r : FileRefusal) (j : Judgement) (row : Row) → answer ≡ Err why →
      r ≡ file_refusal (Err why) → j ≡ file_judgement r → row ≡ no_row →
      figures j false 0 (replicate most row) ≡ figures_in file
  unfolding figures_in
  refused_figures why r j row h q g z =
      ap₂ (λ (i : Judgement) (w : Row). figures i false 0 (replicate most w))
      (g ∙ ap file_judgement q) z ∙
      sym
      (ap (λ (a : ReadAnswer). figures_for a (meaning (read_of file).table))
      (answer_of file answer e (Err why) h))

  pub read_figures :
      (report : Report) (sys : System) (n : ℕ) → answer ≡ whole → sys ≡ meaning (read_of file).table → report ≡ report_of sys →
      n ≡ subsystem_count sys → figures_of report n ≡ figures_in file
  unfolding figures_in
  read_figures report sys n h s q c =
      ap₂ figures_of (q ∙ ap report_of s) (c ∙ ap subsystem_count s) ∙
      sym (ap (λ (a : ReadAnswer). figures_for a (meaning (read_of file).table)) (answer_of file answer e whole h))
