-- What the functions on one subsystem take for granted of its counts, so that no index leaves its array: what rule 1
-- has judged. Assumes nothing.
use Rattle.std.specs.Prelude.{ℕ, ◌≤◌, List}
use Rattle.table.specs.Grid.{count_in}
use Rattle.table.specs.Limits.{most}

-- At least one task, no more than the most; no more than the most resources.
pub record Counted (block : List (List ℕ)) (m : ℕ) : Type 0 where
  pub some_task : 1 ≤ count_in block
  pub tasks_most : count_in block ≤ most
  pub resources_most : m ≤ most
