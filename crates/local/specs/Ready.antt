-- What the functions on one subsystem take for granted: what an admitted table has. Assumes nothing.
use Rattle.std.specs.Prelude.{ℕ, ◌≤◌, ◌≡◌, List}
use Rattle.lists.specs.Range.{padded}
use Rattle.table.specs.Limits.{most}
use Rattle.table.specs.Grid.{period_in, budget_in, separation_in, work_in, subsystem_in}
use Rattle.rules.specs.Admitted.{SoundSubsystem}

-- What is taken out of a subsystem for task i: the separations and works of the tasks above it.
pub record TakenOut (block : List (List ℕ)) (separations works : List ℕ) (i : ℕ) : Type 0 where
  pub separations_are : separations ≡ padded (separation_in block) 0 most i
  pub works_are : works ≡ padded (work_in block) 0 most i

-- A subsystem of an admitted table, with its giving end.
pub record Ready (block : List (List ℕ)) (m end : ℕ) : Type 0 where
  pub sound : SoundSubsystem m (subsystem_in m block)
  pub resources_most : m ≤ most
  pub budget_by_end : budget_in block ≤ end
  pub end_by_period : end ≤ period_in block
