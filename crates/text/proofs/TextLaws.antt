-- The text of a table and of a file by their cases, and what a call prints. Assumes nothing.
use Prim.Native.Nat.{ℕ, ◌≤◌, ◌<◌}
use native.Mathlib.Omega.{arith}
use mathlib.Core.Path.{◌≡◌, refl, sym, ap, ap₂, ◌∙◌}
use mathlib.Core.List.{List}
use lib.ListN.{length}
use Rattle.std.specs.Prelude.{Result, Ok, Err, Option, Some, None}
use borrow.Author.Tests.{lt-ltb, le-ltb}
use Rattle.table.specs.Limits.{most}
use Rattle.table.specs.Meaning.{System, meaning}
use Rattle.table.specs.Parts.{subsystem_count}
use Rattle.table.specs.Grid.{system_in}
use Rattle.table.proofs.GridLaws.{count_of_grid}
use Rattle.rules.specs.Judged.{Judged, admitted}
use Rattle.rules.specs.Rules.{judge_of}
use Rattle.rules.proofs.Sound.{admitted_is_sound}
use Rattle.report.specs.declared.Report.{Report}
use Rattle.report.specs.Report.{report_for, report_of}
use Rattle.stored.specs.declared.Misread.{Misread}
use Rattle.stored.specs.Answers.{ReadAnswer}
use Rattle.reader.specs.declared.Head.{Head}
use Rattle.stored.specs.declared.FileRefusal.{FileRefusal}
use Rattle.stored.specs.Read.{file_refusal, read_of}
use Rattle.reader.specs.Reader.{answer_by, IsHead}
use Rattle.lines.specs.Puts.{Puts}
use Rattle.lines.specs.declared.Pen.{Pen}
use Rattle.wording.specs.Lines.{refused_file}
use Rattle.wording.specs.Room.{text_room}
use Rattle.text.specs.Text.{report_text, table_text, read_text, text_of, printed_of, left_by, buffer_after, IsPrinted}
use Rattle.wording.specs.Wrote.{Wrote}
use Rattle.wording.proofs.WroteLaws.{wrote}

------------------------------------------------------------------------
-- A table

-- A report says how its table was judged.
pub judged_in_report : (sys : System) → (report_of sys).judged ≡ judge_of sys
unfolding report_of
judged_in_report sys = by_cases (judge_of sys)
  where
    by_cases : (j : Judged) → (report_for j sys).judged ≡ j
    by_cases (Ok _) = refl
    by_cases (Err r) = refl

-- An admitted table has at most eight subsystems.
pub admitted_count : (sys : System) → (report_of sys).judged ≡ admitted → subsystem_count sys ≤ most
admitted_count sys e = (admitted_is_sound sys (sym (judged_in_report sys) ∙ e)).subsystems_most

module _ (n m : ℕ) (grid : List (List (List ℕ))) (report : Report) (e : report ≡ report_of (system_in n m grid)) where
  pub count_if_admitted : report.judged ≡ admitted → n ≤ most
  count_if_admitted g =
      rw (count_of_grid n m grid) at
      (admitted_count (system_in n m grid) (sym (ap (λ (r : Report). r.judged) e) ∙ g))

  pub text_of_grid : report_text report n ≡ table_text (system_in n m grid)
  unfolding table_text
  text_of_grid = ap₂ report_text e (sym (count_of_grid n m grid))

------------------------------------------------------------------------
-- A file

module _ (file : List ℕ) (grid : List (List (List ℕ))) (read : Result Head Misread) (h : IsHead file grid read) where
  pub answer_given : (r : Result Head Misread) → read ≡ r → answer_by r ≡ (read_of file).answer
  answer_given r e = ap answer_by (sym e) ∙ h.answer_is

  text_given : (r : Result Head Misread) → read ≡ r → read_text (answer_by r) (read_of file).table ≡ text_of file
  unfolding text_of
  text_given r e = ap (λ (a : ReadAnswer). read_text a (read_of file).table) (answer_given r e)

  pub text_of_refused_file : (why : Misread) (r : FileRefusal) → read ≡ Err why → r ≡ file_refusal (Err why) → refused_file r ≡ text_of file
  text_of_refused_file why r g e = ap refused_file e ∙ text_given (Err why) g

  pub text_of_read_file : (head : Head) → read ≡ Ok head → (sys : System) → sys ≡ meaning (read_of file).table → table_text sys ≡ text_of file
  text_of_read_file head g sys e = ap table_text e ∙ text_given (Ok head) g

------------------------------------------------------------------------
-- What a call prints

module _ (file buf : List ℕ) where
  pub nothing_printed : length buf < text_room → IsPrinted file buf buf None
  unfolding printed_of buffer_after
  nothing_printed h =
      let e : None ≡ printed_of file (length buf) = rw (lt-ltb (length buf) text_room h) refl in
      record { answered = e; left = ap (λ (p : Option ℕ). left_by p (text_of file) buf) e }

  pub text_printed : text_room ≤ length buf → (out : List ℕ) (r : ℕ) → Wrote buf 0 (text_of file) out r → IsPrinted file buf out (Some r)
  unfolding printed_of buffer_after
  text_printed h out r w =
      let n : r ≡ length (text_of file) = omega (arith, w.place) in
      let e : Some r ≡ printed_of file (length buf) = rw (le-ltb (length buf) text_room h) (ap Some n) in
      record { answered = e; left = w.holds ∙ ap (λ (p : Option ℕ). left_by p (text_of file) buf) e }

-- The same where a pen put the text, for the buffer that is left once the pen is let go.
pub text_printed_by :
    (file : List ℕ) {p q : Pen} {out : List ℕ} → text_room ≤ length p.buf.now → p.at ≡ 0 → Puts p (text_of file) q → out ≡ q.buf.now →
    IsPrinted file p.buf.now out (Some q.at)
text_printed_by file {p} {q} {out} room start w e =
    rw e (text_printed file p.buf.now room q.buf.now q.at (rw start at (wrote w)))
