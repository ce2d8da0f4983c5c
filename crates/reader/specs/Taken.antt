-- A table out of what a system is: the table with these parts, and zeros in every other slot. It is what the reader hands
-- to a caller that wants a table. Assumes nothing.
use Rattle.std.specs.Prelude.{ℕ, ◌≤◌, ◌<◌, List, length}
use Rattle.lists.specs.Range.{padded}
use Rattle.table.specs.Limits.{most}
use Rattle.table.specs.Zeros.{zero_task, zero_subsystem}
use Rattle.table.specs.Meaning.{TaskM, SubsystemM, System}
use Rattle.table.specs.Parts.{subsystem_count, subsystem_of, task_count, task_of, access_of}
use Rattle.table.specs.Grid.{block_in, count_in}
use Rattle.table.specs.declared.Task.{Task}
use Rattle.table.specs.declared.Subsystem.{Subsystem}
use Rattle.table.specs.declared.Table.{Table}

-- The task with these times and these accesses; its access to any other resource is 0.
unfoldable pub task_with : TaskM → Task
task_with t =
    record {
      separation = t.separation;
      work = t.work;
      deadline = t.deadline;
      access = padded (access_of t) 0 most (length t.accesses);
    }

-- The task at an index of a subsystem.
unfoldable pub task_taken : SubsystemM → ℕ → Task
task_taken u i = task_with (task_of u i)

-- The subsystem with these tasks.
unfoldable pub subsystem_with : SubsystemM → Subsystem
subsystem_with u =
    record {
      period = u.period;
      budget = u.budget;
      count = task_count u;
      tasks = padded (task_taken u) zero_task most (task_count u);
    }

-- The subsystem at an index of a system.
unfoldable pub subsystem_taken : System → ℕ → Subsystem
subsystem_taken sys s = subsystem_with (subsystem_of sys s)

-- The table with these subsystems.
unfoldable pub table_with : System → Table
table_with sys =
    record {
      count = subsystem_count sys;
      resources = sys.resources;
      subsystems = padded (subsystem_taken sys) zero_subsystem most (subsystem_count sys);
    }

-- The grids whose first n blocks a table has room for: no n of theirs is above the most.
abbrev pub BlocksFit : ℕ → List (List (List ℕ)) → Type 0
BlocksFit n grid = (s : ℕ) → s < n → count_in (block_in grid s) ≤ most
