-- The file of a system: its bytes, defined over what a table means, so that tables that mean the same have the same file.
-- Assumes nothing.
use Rattle.std.specs.Prelude.{ℕ}
use mathlib.Core.List.{List, [], ◌∷◌, ◌++◌, flat_map}
use Rattle.table.specs.Meaning.{TaskM, SubsystemM, System}
use Rattle.table.specs.Parts.{subsystem_count, task_count}
use Rattle.stored.specs.Numbers.{big_endian, number_size}
use Rattle.stored.specs.Field.{field, version, header_tag, subsystem_tag, task_tag}

-- A time or an access, high byte first.
unfoldable pub number_bytes : ℕ → List ℕ
number_bytes x = big_endian number_size x

-- Version, N, M.
unfoldable pub header_value : ℕ → ℕ → List ℕ
header_value n m = version ∷ n ∷ m ∷ []

-- P, Q, n.
unfoldable pub subsystem_value : ℕ → ℕ → ℕ → List ℕ
subsystem_value p q n = (number_bytes p ++ number_bytes q) ++ (n ∷ [])

-- T, C, D.
unfoldable pub times_bytes : ℕ → ℕ → ℕ → List ℕ
times_bytes x y z = (number_bytes x ++ number_bytes y) ++ number_bytes z

-- T, C, D, then c for each resource.
unfoldable pub task_value : TaskM → List ℕ
task_value t = times_bytes t.separation t.work t.deadline ++ flat_map number_bytes t.accesses

unfoldable pub task_field : TaskM → List ℕ
task_field t = field task_tag (task_value t)

-- A subsystem's field, followed by its tasks' fields.
unfoldable pub subsystem_bytes : SubsystemM → List ℕ
subsystem_bytes u = field subsystem_tag (subsystem_value u.period u.budget (task_count u)) ++ flat_map task_field u.tasks

-- The header's field, followed by each subsystem.
unfoldable pub file_of : System → List ℕ
file_of sys =
    field header_tag (header_value (subsystem_count sys) sys.resources) ++ flat_map subsystem_bytes sys.subsystems

-- The most bytes that a file has, and so many of an input as suffice for the reader.
abbrev pub largest_file : ℕ
largest_file = 3110

abbrev pub enough : ℕ
enough = 4096
