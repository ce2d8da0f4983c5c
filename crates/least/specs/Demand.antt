-- Loads, and what they ask for in x ticks. A load has a period and a cost: once in each period it asks for its cost.
-- Loads are two lists, of periods and of costs; "the first n" are those at places 0 .. n − 1 of both. Assumes nothing.
use Rattle.std.specs.Prelude.{ℕ, ◌+◌, ◌-◌, ◌*◌, List, get_or, drop}
use Rattle.lists.specs.Range.{sum_to}
use Rattle.least.specs.Up.{up}

-- What load t asks for in x ticks: Up(x, period) × cost.
unfoldable pub load_in : List ℕ → List ℕ → ℕ → ℕ → ℕ
load_in periods costs x t = up x (get_or periods t 0) * get_or costs t 0

-- What the first n loads ask for in x ticks.
unfoldable pub demand : List ℕ → List ℕ → ℕ → ℕ → ℕ
demand periods costs n x = sum_to (load_in periods costs x) n

-- What the loads at places a .. b − 1 ask for in x ticks.
unfoldable pub demand_between : List ℕ → List ℕ → ℕ → ℕ → ℕ → ℕ
demand_between periods costs a b x = demand (drop a periods) (drop a costs) (b - a) x

-- What the first n loads ask for on top of a constant part.
unfoldable pub total : List ℕ → List ℕ → ℕ → ℕ → ℕ → ℕ
total periods costs n constant x = constant + demand periods costs n x
