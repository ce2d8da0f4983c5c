-- A table as a grid of numbers, and what a grid means. A block of the grid is a subsystem: line 0 has P, Q and n; line i + 1
-- has T, C, D of the task at index i, and behind them its accesses. Indices count from 0; document 01 counts from 1. What
-- stands past the counts means nothing. Assumes nothing.
use Rattle.std.specs.Prelude.{ℕ, ◌+◌, ◌≤◌, ◌<◌, ◌≡◌, List, [], length, get_or}
use Rattle.lists.specs.Range.{up_to}
use Rattle.table.specs.declared.Task.{Task}
use Rattle.table.specs.declared.Subsystem.{Subsystem}
use Rattle.table.specs.declared.Table.{Table}
use Rattle.table.specs.Limits.{most}
use Rattle.table.specs.Meaning.{TaskM, SubsystemM, System, past_tasks, past_subsystems, access_at}

-- Number k of line i of a block.
abbrev pub number_in : List (List ℕ) → ℕ → ℕ → ℕ
number_in block i k = get_or (get_or block i []) k 0

-- P, Q and n.
abbrev pub period_in : List (List ℕ) → ℕ
period_in block = number_in block 0 0

abbrev pub budget_in : List (List ℕ) → ℕ
budget_in block = number_in block 0 1

abbrev pub count_in : List (List ℕ) → ℕ
count_in block = number_in block 0 2

-- T, C and D of the task at index i, and its access c to resource l.
abbrev pub separation_in : List (List ℕ) → ℕ → ℕ
separation_in block i = number_in block (i + 1) 0

abbrev pub work_in : List (List ℕ) → ℕ → ℕ
work_in block i = number_in block (i + 1) 1

abbrev pub deadline_in : List (List ℕ) → ℕ → ℕ
deadline_in block i = number_in block (i + 1) 2

abbrev pub access_in : List (List ℕ) → ℕ → ℕ → ℕ
access_in block i l = number_in block (i + 1) (l + 3)

-- What the block of a subsystem means where M is m: its n tasks, each with m accesses.
unfoldable pub task_in : ℕ → List (List ℕ) → ℕ → TaskM
task_in m block i =
    record {
      separation = separation_in block i;
      work = work_in block i;
      deadline = deadline_in block i;
      accesses = up_to (access_in block i) m;
    }

unfoldable pub subsystem_in : ℕ → List (List ℕ) → SubsystemM
subsystem_in m block = record { period = period_in block; budget = budget_in block; tasks = up_to (task_in m block) (count_in block) }

-- What a grid means where N is n and M is m.
abbrev pub block_in : List (List (List ℕ)) → ℕ → List (List ℕ)
block_in grid s = get_or grid s []

unfoldable pub subsystem_at_block : ℕ → List (List (List ℕ)) → ℕ → SubsystemM
subsystem_at_block m grid s = subsystem_in m (block_in grid s)

unfoldable pub system_in : ℕ → ℕ → List (List (List ℕ)) → System
system_in n m grid = record { resources = m; subsystems = up_to (subsystem_at_block m grid) n }

-- The shape of a line, a block and a grid: what an array's type says of it, for lists.
abbrev pub IsLine : List ℕ → Type 0
IsLine line = length line ≡ 3 + most

pub record HasLines (block : List (List ℕ)) : Type 0 where
  pub lines : length block ≡ 1 + most
  pub wide : (i : ℕ) → i < 1 + most → IsLine (get_or block i [])

pub record HasBlocks (grid : List (List (List ℕ))) : Type 0 where
  pub blocks : length grid ≡ most
  pub lines : (s : ℕ) → s < most → HasLines (block_in grid s)

-- The tables that a grid has room for: no count is above the most.
pub record HasRoom (t : Table) : Type 0 where
  pub subsystems_most : t.count ≤ most
  pub resources_most : t.resources ≤ most
  pub tasks_most : (s : ℕ) → s < t.count → (get_or t.subsystems s past_subsystems).count ≤ most

-- What stands in a grid that a table was laid out in, as far as the counts go: the line of a task with its access to each of m
-- resources, the block of a subsystem, and all blocks.
pub record LineOf (m : ℕ) (task : Task) (line : List ℕ) : Type 0 where
  pub separation_is : get_or line 0 0 ≡ task.separation
  pub work_is : get_or line 1 0 ≡ task.work
  pub deadline_is : get_or line 2 0 ≡ task.deadline
  pub access_is : (l : ℕ) → l < m → get_or line (l + 3) 0 ≡ access_at task l

pub record BlockOf (sub : Subsystem) (block : List (List ℕ)) : Type 0 where
  pub period_is : period_in block ≡ sub.period
  pub budget_is : budget_in block ≡ sub.budget
  pub count_is : count_in block ≡ sub.count
  pub task_is : (i : ℕ) → i < sub.count → LineOf most (get_or sub.tasks i past_tasks) (get_or block (i + 1) [])

abbrev pub GridOf : Table → List (List (List ℕ)) → Type 0
GridOf t grid = (s : ℕ) → s < t.count → BlockOf (get_or t.subsystems s past_subsystems) (block_in grid s)
