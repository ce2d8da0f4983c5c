-- Demand 3's condition on a task, over what one subsystem means. Assumes nothing.
use Rattle.std.specs.Prelude.{ℕ, ◌≤◌}
use Rattle.table.specs.Meaning.{SubsystemM}
use Rattle.supply.specs.Ways.{AlwaysGiven}
use Rattle.local.specs.Passing.{deadline_of, need}

-- Some x in 1 .. D(i) has, under every way of handing out Q ticks in each period of P before E, in every window of x ticks
-- at least task i's need in x ticks.
unfoldable pub SomeWindowHolds : ℕ → SubsystemM → (E i : ℕ) → Type 0
SomeWindowHolds m u E i =
    (x : ℕ) × (1 ≤ x) × (x ≤ deadline_of u i) × AlwaysGiven u.period u.budget E x (need m u i x)
