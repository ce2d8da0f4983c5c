-- What loads ask for of every tick: cost over period, in parts of a unit so that it is a whole number, rounded down. And
-- how far work reaches where they leave something of every tick. Assumes nothing.
use Rattle.std.specs.Prelude.{ℕ, ◌+◌, ◌*◌, ◌/◌, ◌^◌, ◌≤◌, ◌<◌, min, List, get_or}
use Rattle.lists.specs.Range.{sum_to}
use Rattle.least.specs.Search.{reach}

-- The parts of a tick.
abbrev pub unit : ℕ
unit = 2 ^ 40

-- The share of load t, and of the first n loads.
unfoldable pub share_of : List ℕ → List ℕ → ℕ → ℕ
share_of periods costs t = get_or costs t 0 * unit / get_or periods t 0

unfoldable pub shares : List ℕ → List ℕ → ℕ → ℕ
shares periods costs n = sum_to (share_of periods costs) n

-- r of the first n loads ask together for no more than every tick has, and with one more, where there is one, for more.
pub record Fitting (periods costs : List ℕ) (n r : ℕ) : Type 0 where
  pub few : r ≤ n
  pub fits : shares periods costs r ≤ unit
  pub over : r < n → unit < shares periods costs (r + 1)

-- How far `constant` ticks of work reach where `spare` is left of every tick, cut off at the reach of a search.
unfoldable pub standing_at : ℕ → ℕ → ℕ
standing_at constant spare = min reach (constant * unit / spare)
