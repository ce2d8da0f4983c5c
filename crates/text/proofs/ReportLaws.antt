-- The text of a report by its cases. Assumes nothing.
use Prim.Native.Nat.{ℕ, ◌≤◌}
use native.Mathlib.Omega.{arith}
use mathlib.Core.Path.{◌≡◌, sym, ap}
use mathlib.Core.Bool.{Bool, true, false}
use mathlib.Core.List.{◌++◌}
use lib.ListN.{length}
use Rattle.std.specs.Prelude.{Err}
use Rattle.lists.specs.Range.{join_to}
use Rattle.lines.specs.Words.{word}
use Rattle.rules.specs.declared.Broken.{Broken}
use Rattle.rules.specs.Judged.{Judged, admitted}
use Rattle.rules.specs.Refusal.{refusal}
use Rattle.report.specs.declared.Report.{Report}
use Rattle.wording.specs.Lines.{refused_table, verdict}
use Rattle.text.specs.Text.{slot_line, text_for, report_text}

pub verdict_most : (accepted : Bool) → length (verdict accepted) ≤ 9
unfolding word
verdict_most true = omega arith
verdict_most false = omega arith

module _ (report : Report) (n : ℕ) where
  pub text_of_refused : (broken : Broken) → report.judged ≡ Err broken → refused_table (refusal (Err broken)) ≡ report_text report n
  unfolding report_text
  text_of_refused broken e = sym (ap (λ (j : Judged). text_for j report n) e)

  pub text_of_admitted : report.judged ≡ admitted → verdict report.accepted ++ join_to (slot_line report.rows) n ≡ report_text report n
  unfolding report_text
  text_of_admitted e = sym (ap (λ (j : Judged). text_for j report n) e)
