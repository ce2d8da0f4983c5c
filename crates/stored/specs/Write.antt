-- What a write answers and what it leaves in the buffer, for every system and every buffer. Assumes nothing.
use Rattle.std.specs.Prelude.{ℕ, ◌≡◌, cond, List, ◌++◌, ltb, length, drop, Ok, Err}
use Rattle.table.specs.Meaning.{System}
use Rattle.rules.specs.declared.Rule.TheVariants.{Counts}
use Rattle.rules.specs.Judged.{Judged}
use Rattle.rules.specs.Refusal.{number_of, Refusal}
use Rattle.rules.specs.Rules.{counts_judged}
use Rattle.stored.specs.declared.Unwritten.TheVariants.{Uncounted, NoRoom}
use Rattle.stored.specs.Answers.{WriteAnswer, stands, uncounted, no_room}
use Rattle.stored.specs.File.{file_of}

-- Document 01's number and place of a write's answer; 0 at 0 0 where nothing is refused.
abbrev pub write_refusal : WriteAnswer → Refusal
write_refusal (Ok n) = record { number = 0; subsystem = 0; task = 0 }
write_refusal (Err (Uncounted p)) = record { number = number_of Counts; subsystem = p.subsystem; task = p.task }
write_refusal (Err NoRoom) = record { number = 21; subsystem = 0; task = 0 }

-- The bytes at the start of a buffer, and the rest of it as it was.
unfoldable pub written : List ℕ → List ℕ → List ℕ
written bytes buf = bytes ++ drop (length bytes) buf

-- What each field's writer does: it puts its bytes at the start of what it is lent, and says how many they are.
pub record IsPut (bytes before after : List ℕ) (count : ℕ) : Type 0 where
  pub counted : count ≡ length bytes
  pub left : after ≡ written bytes before

-- Refused with 1, then with 21 exactly when the buffer is shorter than the file.
abbrev pub answer_for : Judged → List ℕ → ℕ → WriteAnswer
answer_for (Err r) file room = uncounted r.place
answer_for (Ok _) file room = cond (ltb room (length file)) no_room (stands (length file))

unfoldable pub write_of : System → ℕ → WriteAnswer
write_of sys room = answer_for (counts_judged sys) (file_of sys) room

-- What the buffer holds then: where the answer refuses, what it held.
abbrev pub left_by : WriteAnswer → List ℕ → List ℕ → List ℕ
left_by (Ok n) file buf = written file buf
left_by (Err why) file buf = buf

unfoldable pub buffer_after : System → List ℕ → List ℕ
buffer_after sys buf = left_by (write_of sys (length buf)) (file_of sys) buf
