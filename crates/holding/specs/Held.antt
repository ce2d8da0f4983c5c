-- What the code works out of a subsystem's holding times at once: X(s, l) of each resource, and X(s). Assumes nothing.
use Rattle.std.specs.Prelude.{ℕ, ◌+◌, ◌≤◌, ◌<◌, ◌≡◌, List, ◌⊎◌, length, get_or, replicate}
use Rattle.lists.specs.Range.{largest_to, padded}
use Rattle.table.specs.Limits.{most}
use Rattle.table.specs.Meaning.{SubsystemM, System}
use Rattle.table.specs.Parts.{subsystem_count, subsystem_of}
use Rattle.table.specs.Grid.{access_in, subsystem_in}
use Rattle.holding.specs.declared.Held.{Held}
use Rattle.holding.specs.Holding.{work_above, resource_holding, holding}

-- The accesses to resource l in a block, task by task.
abbrev pub access_to : List (List ℕ) → ℕ → ℕ → ℕ
access_to block l i = access_in block i l

-- What the first i tasks of a block make of resource l: nothing where none of them accesses it, else the longest of their
-- accesses with `above` on top, the work above the inner ceiling.
unfoldable pub HeldSoFar : List (List ℕ) → ℕ → ℕ → ℕ → ℕ → ℕ → Type 0
HeldSoFar block m i l x above =
    ((x ≡ 0) × (largest_to (access_to block l) i ≡ 0)) ⊎ ((0 < largest_to (access_to block l) i) × (x ≡ largest_to (access_to block l) i + above) × (above ≡ work_above (subsystem_in m block) l))

-- What an array has in a slot.
abbrev pub slot_of : List ℕ → ℕ → ℕ
slot_of xs k = get_or xs k 0

-- The arrays and the largest of `each` when the first i tasks have been joined, and of the next one the first l resources.
pub record HeldUpTo (block : List (List ℕ)) (m i l : ℕ) (each above : List ℕ) (largest : ℕ) : Type 0 where
  pub each_size : length each ≡ most
  pub above_size : length above ≡ most
  pub joined : (k : ℕ) → k < l → HeldSoFar block m (i + 1) k (slot_of each k) (slot_of above k)
  pub others : (k : ℕ) → l ≤ k → k < m → HeldSoFar block m i k (slot_of each k) (slot_of above k)
  pub behind : (k : ℕ) → m ≤ k → k < most → slot_of each k ≡ 0
  pub above_fits : (k : ℕ) → k < most → slot_of above k < 34359738368
  pub largest_is : largest ≡ largest_to (slot_of each) m
  pub largest_fits : largest < 38654705664

-- X(s, l) of each of m resources and 0 behind them, and their largest, which sums of eight 32-bit numbers bound.
pub record IsHeld (m : ℕ) (u : SubsystemM) (r : Held) : Type 0 where
  pub each_is : r.each ≡ padded (resource_holding u) 0 most m
  pub largest_is : r.largest ≡ holding m u
  pub largest_fits : r.largest < 38654705664

-- X(s, l) of each subsystem and resource of a system, and 0 past the counts.
unfoldable pub holdings_at : System → ℕ → List ℕ
holdings_at sys s = padded (resource_holding (subsystem_of sys s)) 0 most sys.resources

abbrev pub HeldIn : System → List (List ℕ) → Type 0
HeldIn sys holdings = holdings ≡ padded (holdings_at sys) (replicate most 0) most (subsystem_count sys)
