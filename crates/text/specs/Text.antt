-- What `check` prints: the text of a report, of a table and of a file, and what a lent buffer holds afterwards. Indices count
-- from 0; document 01 counts from 1. Assumes nothing.
use Rattle.std.specs.Prelude.{ℕ, ◌≡◌, cond, List, ◌++◌, ltb, length, get_or, Ok, Err, Option, Some, None}
use Rattle.lists.specs.Range.{join_to}
use Rattle.lines.specs.Written.{written}
use Rattle.table.specs.Meaning.{System, meaning}
use Rattle.table.specs.Parts.{subsystem_count}
use Rattle.table.specs.declared.Table.{Table}
use Rattle.rules.specs.Judged.{Judged}
use Rattle.rules.specs.Refusal.{refusal}
use Rattle.row.specs.declared.Row.{Row}
use Rattle.report.specs.declared.Report.{Report}
use Rattle.report.specs.Report.{past_rows, report_of}
use Rattle.stored.specs.Answers.{ReadAnswer}
use Rattle.stored.specs.Read.{file_refusal, read_of}
use Rattle.wording.specs.Lines.{refused_file, refused_table, verdict, row_line}
use Rattle.wording.specs.Room.{text_room}

-- The line of the row in slot s, which is that of the subsystem at index s.
unfoldable pub slot_line : List Row → ℕ → List ℕ
slot_line rows s = row_line s (get_or rows s past_rows)

-- The text of a report of n subsystems that was judged so: its refusal, or else the verdict and a line for each subsystem.
abbrev pub text_for : Judged → Report → ℕ → List ℕ
text_for (Err r) report n = refused_table (refusal (Err r))
text_for (Ok _) report n = verdict report.accepted ++ join_to (slot_line report.rows) n

unfoldable pub report_text : Report → ℕ → List ℕ
report_text report n = text_for report.judged report n

-- The text of a table, over what it means.
unfoldable pub table_text : System → List ℕ
table_text sys = report_text (report_of sys) (subsystem_count sys)

-- The text of a file that was read so: its refusal, or else the text of its table.
abbrev pub read_text : ReadAnswer → Table → List ℕ
read_text (Err r) t = refused_file (file_refusal (Err r))
read_text (Ok _) t = table_text (meaning t)

-- The text of a file.
unfoldable pub text_of : List ℕ → List ℕ
text_of file = read_text (read_of file).answer (read_of file).table

------------------------------------------------------------------------
-- What a lent buffer gets

-- A buffer that is too short for some text gets none; any other gets the whole text, and its length is the answer.
unfoldable pub printed_of : List ℕ → ℕ → Option ℕ
printed_of file room = cond (ltb room text_room) None (Some (length (text_of file)))

-- What the buffer holds then: where it is too short, what it held; else the text first, and behind it what it held.
abbrev pub left_by : Option ℕ → List ℕ → List ℕ → List ℕ
left_by None text buf = buf
left_by (Some n) text buf = written buf 0 text

unfoldable pub buffer_after : List ℕ → List ℕ → List ℕ
buffer_after file buf = left_by (printed_of file (length buf)) (text_of file) buf

-- What a call answers and leaves in the buffer.
pub record IsPrinted (file before after : List ℕ) (answer : Option ℕ) : Type 0 where
  pub answered : answer ≡ printed_of file (length before)
  pub left : after ≡ buffer_after file before
