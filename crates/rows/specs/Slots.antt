-- What the functions on one subsystem of an admitted table take for granted, and what the line of its interface shows. Assumes
-- nothing.
use Rattle.std.specs.Prelude.{ℕ, ◌+◌, ◌≤◌, ◌<◌, ◌≡◌, List, get_or}
use Rattle.table.specs.Limits.{most}
use Rattle.table.specs.Grid.{period_in, budget_in, subsystem_in}
use Rattle.holding.specs.Holding.{resource_holding}
use Rattle.rules.specs.Admitted.{SoundSubsystem}

pub record SoundSlot (block : List (List ℕ)) (m : ℕ) : Type 0 where
  pub sound : SoundSubsystem m (subsystem_in m block)
  pub resources_most : m ≤ most

-- P, Q and X(s, l) of each of m resources.
pub record Shows (m : ℕ) (block : List (List ℕ)) (line : List ℕ) : Type 0 where
  pub period_is : get_or line 0 0 ≡ period_in block
  pub budget_is : get_or line 1 0 ≡ budget_in block
  pub held_is : (l : ℕ) → l < m → get_or line (l + 2) 0 ≡ resource_holding (subsystem_in m block) l
