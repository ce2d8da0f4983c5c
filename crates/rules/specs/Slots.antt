-- What the functions on a whole table take for granted of its counts, so that no index leaves its array: what rule 1 has
-- judged. Assumes nothing.
use Rattle.std.specs.Prelude.{ℕ, ◌≤◌, ◌<◌, List, get_or}
use Rattle.table.specs.Meaning.{System, past_subsystems}
use Rattle.table.specs.Parts.{subsystem_count, subsystem_of, task_count}
use Rattle.table.specs.Grid.{block_in}
use Rattle.table.specs.declared.Table.{Table}
use Rattle.table.specs.Limits.{most}
use Rattle.holding.specs.Slots.{Counted}

-- A system, a grid, and a table whose counts rule 1 has passed.
pub record CountedSystem (sys : System) : Type 0 where
  pub subsystems_least : 1 ≤ subsystem_count sys
  pub subsystems_most : subsystem_count sys ≤ most
  pub resources_most : sys.resources ≤ most
  pub some_task : (s : ℕ) → s < subsystem_count sys → 1 ≤ task_count (subsystem_of sys s)
  pub tasks_most : (s : ℕ) → s < subsystem_count sys → task_count (subsystem_of sys s) ≤ most

pub record CountedGrid (grid : List (List (List ℕ))) (n m : ℕ) : Type 0 where
  pub subsystems_most : n ≤ most
  pub resources_most : m ≤ most
  pub counted : (s : ℕ) → s < n → Counted (block_in grid s) m

pub record CountedTable (t : Table) : Type 0 where
  pub subsystems_least : 1 ≤ t.count
  pub subsystems_most : t.count ≤ most
  pub resources_most : t.resources ≤ most
  pub some_task : (s : ℕ) → s < t.count → 1 ≤ (get_or t.subsystems s past_subsystems).count
  pub tasks_most : (s : ℕ) → s < t.count → (get_or t.subsystems s past_subsystems).count ≤ most
