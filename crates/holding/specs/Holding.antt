-- Step 1's inner ceiling and step 2's holding times, over what one subsystem means. Tasks and resources count from 0
-- here, so document 01's "n if none" is the last index, n − 1. Source 002: equation 4 for
-- the ceiling, 10 for X(i, l), 11 for X(s, l), 1 for X(s). Assumes nothing.
use Rattle.std.specs.Prelude.{ℕ, ◌+◌, ◌-◌, Bool, cond, ltb}
use Rattle.std.proofs.Math.Option.{get_or}
use Rattle.lists.specs.Range.{sum_to, largest_to, first_such}
use Rattle.table.specs.Meaning.{SubsystemM}
use Rattle.table.specs.Parts.{task_count, task_of, access_of, work_of}

-- Whether task i accesses resource l: c(i, l) > 0.
unfoldable pub uses : SubsystemM → ℕ → ℕ → Bool
uses u l i = ltb 0 (access_of (task_of u i) l)

-- Step 1. rc(s, l): the lowest task index with c > 0, or the last where there is none.
unfoldable pub inner_ceiling : SubsystemM → ℕ → ℕ
inner_ceiling u l = get_or (first_such (uses u l) (task_count u) 0) (task_count u - 1)

-- The sum of C over tasks j < rc(s, l): what can still preempt a task that holds l.
unfoldable pub work_above : SubsystemM → ℕ → ℕ
work_above u l = sum_to (work_of u) (inner_ceiling u l)

-- Step 2. X(i, l), for c(i, l) > 0; 0 stands for a task without access.
unfoldable pub task_holding : SubsystemM → ℕ → ℕ → ℕ
task_holding u l i = cond (uses u l i) (access_of (task_of u i) l + work_above u l) 0

-- X(s, l): the largest over i, 0 if none.
unfoldable pub resource_holding : SubsystemM → ℕ → ℕ
resource_holding u l = largest_to (task_holding u l) (task_count u)

-- X(s): the largest over the m listed resources, 0 if none. Every listed resource counts.
unfoldable pub holding : ℕ → SubsystemM → ℕ
holding m u = largest_to (resource_holding u) m
