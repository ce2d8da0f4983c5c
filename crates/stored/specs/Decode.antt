-- What a field's value says, given as the caller's own bytes. Times are taken as they stand, unjudged; unused slots are
-- zeros. Resources and tasks count from 0 here. Assumes nothing.
use Rattle.std.specs.Prelude.{ℕ, ◌*◌, List, get_or, replicate}
use Rattle.lists.specs.Range.{padded}
use Rattle.table.specs.Limits.{most}
use Rattle.table.specs.Zeros.{zero_task, zero_subsystem}
use Rattle.table.specs.declared.Task.{Task}
use Rattle.table.specs.declared.Subsystem.{Subsystem}
use Rattle.table.specs.declared.Table.{Table}
use Rattle.stored.specs.Numbers.{number_size, number_at}
use Rattle.stored.specs.Field.{count_at, task_length}

-- A header's value: version, N, M. The table with these counts and zeros.
abbrev pub headed : ℕ → ℕ → Table
headed n m = record { count = n; resources = m; subsystems = replicate most zero_subsystem }

unfoldable pub decoded_header : List ℕ → Table
decoded_header value = headed (get_or value 1 0) (get_or value 2 0)

-- A subsystem's value: P, Q, n. The subsystem with these and no tasks yet.
unfoldable pub decoded_subsystem : List ℕ → Subsystem
decoded_subsystem value =
    record {
      period = number_at value 0;
      budget = number_at value number_size;
      count = get_or value count_at 0;
      tasks = replicate most zero_task;
    }

-- The access to resource l stands behind T, C, D and the l accesses before it: at the length of a value with l of them.
unfoldable pub decoded_access : List ℕ → ℕ → ℕ
decoded_access value l = number_at value (task_length l)

-- A task's value: T, C, D, then c for each of m resources.
unfoldable pub decoded_task : ℕ → List ℕ → Task
decoded_task m value =
    record {
      separation = number_at value 0;
      work = number_at value number_size;
      deadline = number_at value (2 * number_size);
      access = padded (decoded_access value) 0 most m;
    }
