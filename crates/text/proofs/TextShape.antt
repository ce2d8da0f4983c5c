-- What the text of every file is like: lines of words, no longer than the room that is asked for, and settled by the first
-- 4,096 bytes. (That the numbers are decimal without leading zeros is in crate `lines`: decimal-value, decimal-lead.)
-- Assumes nothing.
use Prim.Native.Nat.{ℕ, zero, suc, ◌≤◌}
use native.Mathlib.Omega.{arith}
use mathlib.Core.Path.{◌≡◌, refl, sym, ap}
use mathlib.Core.List.{List, [], ◌∷◌, ◌++◌, append_assoc, append-nil}
use lib.ListN.{length, get_or, take, length-append}
use Rattle.std.specs.Prelude.{Ok, Err}
use Rattle.lists.specs.Range.{join_to}
use Rattle.table.specs.Limits.{most}
use Rattle.table.specs.Meaning.{System, meaning, MeanTheSame}
use Rattle.table.specs.Parts.{subsystem_count}
use Rattle.table.specs.declared.Table.{Table}
use Rattle.rules.specs.Judged.{Judged, admitted}
use Rattle.rules.specs.Refusal.{Refusal, refusal}
use Rattle.row.specs.declared.Row.{Row}
use Rattle.report.specs.declared.Report.{Report}
use Rattle.report.specs.Report.{past_rows, report_of}
use Rattle.stored.specs.Answers.{ReadAnswer}
use Rattle.stored.specs.declared.Reading.{Reading}
use Rattle.stored.specs.declared.FileRefusal.{FileRefusal}
use Rattle.stored.specs.File.{enough}
use Rattle.stored.specs.Read.{file_refusal, read_of}
use Rattle.stored.proofs.LongInput.{first_bytes_suffice}
use Rattle.lines.specs.Words.{word}
use Rattle.lines.proofs.DecimalLaws.{decimal_at_most_ten}
use Rattle.wording.specs.Lines.{figure, refused_file, refused_table, verdict}
use Rattle.wording.specs.Room.{line_most, text_room}
use Rattle.wording.specs.Shape.{LF, AreWords, parted, line, Lines, no_line, one_more}
use Rattle.text.specs.Text.{slot_line, text_for, report_text, table_text, read_text, text_of}
use Rattle.text.proofs.RowsLaws.{lines_most}
use Rattle.text.proofs.ReportLaws.{verdict_most}
use Rattle.text.proofs.TextLaws.{admitted_count}
use Rattle.wording.proofs.ShapeLaws.{refused_file_words, refused_file_line, refused_file_words_lem, refused_table_words, refused_table_line, refused_table_words_lem, verdict_words, verdict_line, verdict_words_lem}
use Rattle.wording.proofs.RowShape.{row_words, row_line_line, row_line_words}

------------------------------------------------------------------------
-- Lines of words

-- One line by itself.
one_line : {bytes : List ℕ} (ws : List (List ℕ)) → bytes ≡ line ws → AreWords ws → Lines 1 bytes
one_line ws e h = rw e (one_more {n = 0} {bytes = []} {ws = ws} no_line h)

-- Each row adds a line.
lines_of_rows : (rows : List Row) (n : ℕ) (before : List ℕ) → Lines 1 before → Lines (suc n) (before ++ join_to (slot_line rows) n)
unfolding join_to slot_line
lines_of_rows rows zero before h = rw (append-nil before) h
lines_of_rows rows (suc n) before h =
    rw (← append_assoc before (join_to (slot_line rows) n) (slot_line rows n), row_line_line n (get_or rows n past_rows))
    (one_more {ws = row_words n (get_or rows n past_rows)} (lines_of_rows rows n before h) (row_line_words n (get_or rows n past_rows)))

-- A refused report is one line; any other is the verdict and a line for each subsystem.
pub lines_of_refused : (report : Report) (n : ℕ) (j : Judged) → (j ≡ admitted → ⊥) → Lines 1 (text_for j report n)
lines_of_refused report n (Ok _) h = absurd (h refl)
lines_of_refused report n (Err broken) h =
    let r = refusal (Err broken) in
    one_line (refused_table_words r) (refused_table_line r) (refused_table_words_lem r)

pub lines_of_admitted : (report : Report) (n : ℕ) → report.judged ≡ admitted → Lines (suc n) (report_text report n)
unfolding report_text
lines_of_admitted report n e =
    rw e
    (lines_of_rows report.rows n (verdict report.accepted)
    (one_line (verdict_words report.accepted) (verdict_line report.accepted) (verdict_words_lem report.accepted)))

lines_of_report : (report : Report) (n : ℕ) → (k : ℕ) × Lines (suc k) (report_text report n)
unfolding report_text
lines_of_report report n = go report.judged refl
  where
    go : (j : Judged) → report.judged ≡ j → (k : ℕ) × Lines (suc k) (report_text report n)
    go (Ok _) e = (n, lines_of_admitted report n e)
    go (Err broken) e =
        (0, rw e (lines_of_refused report n (Err broken) (λ q. let z : ◌≡◌ {A = ℕ} 0 1 = cc in omega arith)))

lines_of_answer : (a : ReadAnswer) (t : Table) → (k : ℕ) × Lines (suc k) (read_text a t)
unfolding table_text
lines_of_answer (Ok _) t = lines_of_report (report_of (meaning t)) (subsystem_count (meaning t))
lines_of_answer (Err why) t =
    let r = file_refusal (Err why) in
    (0, one_line (refused_file_words r) (refused_file_line r) (refused_file_words_lem r))

-- Every text is lines, at least one: words with one space between each and the next, and one LF.
pub text_is_lines : (file : List ℕ) → (k : ℕ) × Lines (suc k) (text_of file)
unfolding text_of
text_is_lines file = lines_of_answer (read_of file).answer (read_of file).table

-- So it ends in an LF.
lines_end_in_LF : {k : ℕ} {bytes : List ℕ} → Lines (suc k) bytes → (front : List ℕ) × (bytes ≡ front ++ (LF ∷ []))
unfolding line
lines_end_in_LF (one_more {bytes} {ws} h w) = (bytes ++ parted ws, sym (append_assoc bytes (parted ws) (LF ∷ [])))

pub text_ends_in_LF : (file : List ℕ) → (front : List ℕ) × (text_of file ≡ front ++ (LF ∷ []))
text_ends_in_LF file = lines_end_in_LF (text_is_lines file).1

------------------------------------------------------------------------
-- Room

refused_file_most : (r : FileRefusal) → length (refused_file r) ≤ line_most
unfolding refused_file figure word
refused_file_most r = simp length-append (omega (arith, decimal_at_most_ten r.number, decimal_at_most_ten r.offset))

refused_table_most : (r : Refusal) → length (refused_table r) ≤ line_most
unfolding refused_table figure word
refused_table_most r =
    simp length-append
    (omega (arith, decimal_at_most_ten r.number, decimal_at_most_ten r.subsystem, decimal_at_most_ten r.task))

-- A report on at most eight subsystems.
pub report_most : (report : Report) (n : ℕ) → (report.judged ≡ admitted → n ≤ most) → length (report_text report n) ≤ text_room
unfolding report_text
report_most report n h = go report.judged refl
  where
    go : (j : Judged) → report.judged ≡ j → length (text_for report.judged report n) ≤ text_room
    go (Ok _) e =
        let few = h e in
        rw e
        (simp length-append (omega (arith, verdict_most report.accepted, lines_most report.rows n)))
    go (Err broken) e = rw e (omega (arith, refused_table_most (refusal (Err broken))))

pub table_most : (sys : System) → length (table_text sys) ≤ text_room
unfolding table_text
table_most sys = report_most (report_of sys) (subsystem_count sys) (admitted_count sys)

answer_most : (a : ReadAnswer) (t : Table) → length (read_text a t) ≤ text_room
answer_most (Ok _) t = table_most (meaning t)
answer_most (Err why) t = omega (arith, refused_file_most (file_refusal (Err why)))

-- Every text fits the room.
pub text_most : (file : List ℕ) → length (text_of file) ≤ text_room
unfolding text_of
text_most file = answer_most (read_of file).answer (read_of file).table

------------------------------------------------------------------------
-- What a text hangs on

-- Tables that mean the same have the same text.
pub same_text : (t u : Table) → MeanTheSame t u → table_text (meaning t) ≡ table_text (meaning u)
unfolding MeanTheSame
same_text t u e = ap table_text e

-- The first 4,096 bytes of an input decide.
pub first_bytes_print_the_same : (input : List ℕ) → text_of (take enough input) ≡ text_of input
unfolding text_of
first_bytes_print_the_same input = ap (λ (r : Reading). read_text r.answer r.table) (first_bytes_suffice input)
