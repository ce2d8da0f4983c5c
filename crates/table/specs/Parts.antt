-- The parts of a meaning by index, total: past the end everything is 0. Indices count from 0; document 01 counts from 1.
-- Assumes nothing.
use Rattle.std.specs.Prelude.{ℕ, [], length, get_or}
use Rattle.table.specs.Meaning.{TaskM, SubsystemM, System}

-- What stands past the end.
abbrev pub no_task : TaskM
no_task = record { separation = 0; work = 0; deadline = 0; accesses = [] }

abbrev pub no_subsystem : SubsystemM
no_subsystem = record { period = 0; budget = 0; tasks = [] }

-- N, the number of subsystems, and the subsystem at an index.
unfoldable pub subsystem_count : System → ℕ
subsystem_count sys = length sys.subsystems

unfoldable pub subsystem_of : System → ℕ → SubsystemM
subsystem_of sys s = get_or sys.subsystems s no_subsystem

-- n, the number of tasks, and the task at an index.
unfoldable pub task_count : SubsystemM → ℕ
task_count u = length u.tasks

unfoldable pub task_of : SubsystemM → ℕ → TaskM
task_of u i = get_or u.tasks i no_task

-- A task's access to resource l: c(i, l).
unfoldable pub access_of : TaskM → ℕ → ℕ
access_of t l = get_or t.accesses l 0

-- The work C of the task at an index.
unfoldable pub work_of : SubsystemM → ℕ → ℕ
work_of u i = (task_of u i).work
