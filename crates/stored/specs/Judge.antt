-- What the judge of a field says of the rest of a file, in document 01's order. Assumes nothing.
use Rattle.std.specs.Prelude.{ℕ, Bool, true, false, not, ◌&&◌, List, ltb, leb, eqb, length, get_or}
use Rattle.table.specs.Limits.{most}
use Rattle.rules.specs.Rules.{count_out}
use Rattle.stored.specs.declared.Fault.{Fault}
use Rattle.stored.specs.declared.Fault.TheVariants.{Short, OtherTag, OtherLength, OutOfRange, LeftOver}
use Rattle.stored.specs.Answers.{FieldAnswer, sound, faulty}
use Rattle.stored.specs.Field.{start_size, field_size, tag_of, stated_length, value_of, version, header_tag, header_length, subsystem_tag, subsystem_length, count_at, task_tag, task_length}

-- Document 01's number of each fault.
abbrev pub fault_number : Fault → ℕ
fault_number Short = 11
fault_number OtherTag = 12
fault_number OtherLength = 13
fault_number OutOfRange = 14
fault_number LeftOver = 15

-- The fault where the test holds, or else what comes after it.
abbrev pub refuse_if : Bool → Fault → FieldAnswer → FieldAnswer
refuse_if true f later = faulty f
refuse_if false f later = later

-- The judgement of the rest of a file where a field with this tag and this length is due: 11 for tag and length, 12, 13,
-- 11 for the value, and 14 where the value is not in range. A sound field has the length that is due.
unfoldable pub judge_field : ℕ → ℕ → (List ℕ → Bool) → List ℕ → FieldAnswer
judge_field tag due in_range rest =
    refuse_if (ltb (length rest) start_size) Short
    (refuse_if (not (eqb (tag_of rest) tag)) OtherTag
    (refuse_if (not (eqb (stated_length rest) due)) OtherLength
    (refuse_if (ltb (length rest) (field_size (stated_length rest))) Short
    (refuse_if (not (in_range (value_of due rest))) OutOfRange
    (sound due)))))

-- What 14 judges: version, N and M of a header; n of a subsystem; nothing of a task. Counts are judged as rule 1 does.
unfoldable pub header_in_range : List ℕ → Bool
header_in_range value = eqb (get_or value 0 0) version && (not (count_out (get_or value 1 0)) && leb (get_or value 2 0) most)

unfoldable pub subsystem_in_range : List ℕ → Bool
subsystem_in_range value = not (count_out (get_or value count_at 0))

unfoldable pub any_value : List ℕ → Bool
any_value value = true

-- The judgement of the rest of a file where a header, a subsystem, a task is due.
abbrev pub judge_header : List ℕ → FieldAnswer
judge_header rest = judge_field header_tag header_length header_in_range rest

abbrev pub judge_subsystem : List ℕ → FieldAnswer
judge_subsystem rest = judge_field subsystem_tag subsystem_length subsystem_in_range rest

abbrev pub judge_task : ℕ → List ℕ → FieldAnswer
judge_task m rest = judge_field task_tag (task_length m) any_value rest
