-- Step 3's task blocking, over what one subsystem means. Tasks and resources count from 0. Source 002, equation 9.
-- Assumes nothing.
use Rattle.std.specs.Prelude.{ℕ, Bool, cond, ◌&&◌, ltb, leb}
use Rattle.lists.specs.Range.{largest_to}
use Rattle.table.specs.Meaning.{SubsystemM}
use Rattle.table.specs.Parts.{task_count, task_of, access_of}
use Rattle.holding.specs.Holding.{uses, inner_ceiling}

-- Whether task j's access to resource l can hold up task i: j > i, c(j, l) > 0, rc(s, l) ≤ i.
unfoldable pub can_block : SubsystemM → (i l j : ℕ) → Bool
can_block u i l j = ltb i j && uses u l j && leb (inner_ceiling u l) i

-- How long that access is: c(j, l) itself, not the holding time; 0 where it cannot hold up task i.
unfoldable pub blocking_access : SubsystemM → (i l j : ℕ) → ℕ
blocking_access u i l j = cond (can_block u i l j) (access_of (task_of u j) l) 0

-- The longest of them with resource l, and b(i): the longest with any of the m resources, 0 where there is none.
unfoldable pub resource_blocking : SubsystemM → (i l : ℕ) → ℕ
resource_blocking u i l = largest_to (blocking_access u i l) (task_count u)

unfoldable pub task_blocking : ℕ → SubsystemM → ℕ → ℕ
task_blocking m u i = largest_to (resource_blocking u i) m
