-- What a read gives, for every list of bytes: the first refusal in the order of the fields with its place, or the table.
-- Indices count from 0 here; document 01 counts from 1. Assumes nothing.
use Rattle.std.specs.Prelude.{ℕ, zero, suc, ◌+◌, ◌*◌, cond, List, ltb, length, drop, Ok, Err}
use Rattle.std.proofs.Math.Option.{Option, none, some}
use Rattle.lists.specs.Range.{or_else, first_of, padded}
use Rattle.table.specs.Limits.{most}
use Rattle.table.specs.Zeros.{zero_task, zero_subsystem, zero_table}
use Rattle.table.specs.declared.Task.{Task}
use Rattle.table.specs.declared.Subsystem.{Subsystem}
use Rattle.table.specs.declared.Table.{Table}
use Rattle.stored.specs.declared.Fault.{Fault}
use Rattle.stored.specs.declared.Fault.TheVariants.{LeftOver}
use Rattle.stored.specs.declared.FileRefusal.{FileRefusal}
use Rattle.stored.specs.declared.Reading.{Reading}
use Rattle.stored.specs.Answers.{FieldAnswer, ReadAnswer, whole, refused}
use Rattle.stored.specs.Field.{field_size, value_of, header_length, subsystem_length, task_length}
use Rattle.stored.specs.Judge.{fault_number, judge_header, judge_subsystem, judge_task}
use Rattle.stored.specs.Decode.{decoded_header, decoded_subsystem, decoded_task}

-- Document 01's number and place of a read's answer; 0 at 0 where nothing is refused.
abbrev pub file_refusal : ReadAnswer → FileRefusal
file_refusal (Ok _) = record { number = 0; offset = 0 }
file_refusal (Err r) = record { number = fault_number r.fault; offset = r.offset }

------------------------------------------------------------------------
-- Where the fields stand, by what the fields before them say

-- The header with its counts N and M.
unfoldable pub header_in : List ℕ → Table
header_in file = decoded_header (value_of header_length file)

-- The subsystem whose field stands at an offset, with its n and no tasks yet.
unfoldable pub head_at : List ℕ → ℕ → Subsystem
head_at file at = decoded_subsystem (value_of subsystem_length (drop at file))

-- The offset of task i of the subsystem at an offset, where there are m resources.
unfoldable pub task_place : ℕ → ℕ → ℕ → ℕ
task_place m at i = at + field_size subsystem_length + i * field_size (task_length m)

-- The offset behind the subsystem at an offset and its tasks.
unfoldable pub place_behind : List ℕ → ℕ → ℕ → ℕ
place_behind file m at = task_place m at (head_at file at).count

-- The offset of subsystem s; that of subsystem N is the first behind the last field.
unfoldable pub subsystem_place : List ℕ → ℕ → ℕ → ℕ
subsystem_place file m zero = field_size header_length
subsystem_place file m (suc s) = place_behind file m (subsystem_place file m s)

------------------------------------------------------------------------
-- The first refusal, in the order of the fields

-- What is refused, and at which offset.
abbrev pub Refusal : Type 0
Refusal = Fault × ℕ

-- The refusal of a field that was judged so, at its offset.
abbrev pub refused_at : ℕ → FieldAnswer → Option Refusal
refused_at at (Ok n) = none
refused_at at (Err f) = some (f, at)

-- The refusal of task i of the subsystem at an offset.
unfoldable pub task_refusal : List ℕ → ℕ → ℕ → ℕ → Option Refusal
task_refusal file m at i = refused_at (task_place m at i) (judge_task m (drop (task_place m at i) file))

unfoldable pub tasks_refusal : List ℕ → ℕ → ℕ → Option Refusal
tasks_refusal file m at = first_of (task_refusal file m at) (head_at file at).count 0

-- The first refusal in the subsystem at an offset: its own field, then its tasks.
unfoldable pub refusal_from : List ℕ → ℕ → ℕ → Option Refusal
refusal_from file m at = or_else (refused_at at (judge_subsystem (drop at file))) (tasks_refusal file m at)

unfoldable pub subsystem_refusal : List ℕ → ℕ → ℕ → Option Refusal
subsystem_refusal file m s = refusal_from file m (subsystem_place file m s)

-- Bytes left behind the last field: refused at the first of them.
unfoldable pub left_over : List ℕ → ℕ → Option Refusal
left_over file at = cond (ltb at (length file)) (some (LeftOver, at)) none

-- The first refusal behind the header, for n subsystems and m resources.
unfoldable pub body_refusal : List ℕ → ℕ → ℕ → Option Refusal
body_refusal file m n = or_else (first_of (subsystem_refusal file m) n 0) (left_over file (subsystem_place file m n))

-- The first refusal in a file: the header, then each subsystem with its tasks, then what is left over.
unfoldable pub refusal_in : List ℕ → Option Refusal
refusal_in file =
    or_else (refused_at 0 (judge_header file)) (body_refusal file (header_in file).resources (header_in file).count)

------------------------------------------------------------------------
-- The table, where nothing is refused

-- Task i of the subsystem at an offset.
unfoldable pub task_read : List ℕ → ℕ → ℕ → ℕ → Task
task_read file m at i = decoded_task m (value_of (task_length m) (drop (task_place m at i) file))

-- The subsystem at an offset with its first i tasks, and with all of them.
unfoldable pub subsystem_to : List ℕ → ℕ → ℕ → ℕ → Subsystem
subsystem_to file m at i =
    record {
      period = (head_at file at).period;
      budget = (head_at file at).budget;
      count = (head_at file at).count;
      tasks = padded (task_read file m at) zero_task most i;
    }

unfoldable pub subsystem_from : List ℕ → ℕ → ℕ → Subsystem
subsystem_from file m at = subsystem_to file m at (head_at file at).count

unfoldable pub subsystem_read : List ℕ → ℕ → ℕ → Subsystem
subsystem_read file m s = subsystem_from file m (subsystem_place file m s)

-- The table with its first s subsystems, and with all of them.
unfoldable pub table_to : List ℕ → ℕ → Table
table_to file s =
    record {
      count = (header_in file).count;
      resources = (header_in file).resources;
      subsystems = padded (subsystem_read file (header_in file).resources) zero_subsystem most s;
    }

unfoldable pub table_in : List ℕ → Table
table_in file = table_to file (header_in file).count

------------------------------------------------------------------------
-- What a read gives

abbrev pub whole_unless : Option Refusal → ReadAnswer
whole_unless none = whole
whole_unless (some r) = refused r.0 r.1

-- The table of zeros where something is refused.
abbrev pub zeros_if : Option Refusal → Table → Table
zeros_if none t = t
zeros_if (some r) t = zero_table

-- The reading of a file with this first refusal, if any, and otherwise this table.
abbrev pub reading_of : Option Refusal → Table → Reading
reading_of refusal t = record { answer = whole_unless refusal; table = zeros_if refusal t }

unfoldable pub read_of : List ℕ → Reading
read_of file = reading_of (refusal_in file) (table_in file)
