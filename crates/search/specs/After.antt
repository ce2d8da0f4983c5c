-- A search that goes on from y ticks, where an earlier one ended: what is asked for after y ticks, what has been asked for by then,
-- and what the search finds. Assumes nothing.
use Rattle.std.specs.Prelude.{ℕ, ◌+◌, ◌-◌, ◌*◌, ◌^◌, ◌≤◌, ◌<◌, ◌≡◌, ◌⊎◌, List, length, get_or, set, Option, IfSome, IfNone}
use Rattle.least.specs.Up.{up}
use Rattle.least.specs.Demand.{demand, total}
use Rattle.least.specs.Search.{Loads, Stands, Starts, ComesDown, IsLeast, reach}

-- Loads that ask for something and for no more than their period, which is below 2 ^ 20.
pub record Fit (periods costs : List ℕ) (n : ℕ) : Type 0 where
  pub loads : Loads periods costs n
  pub cost_pos : (t : ℕ) → t < n → 1 ≤ get_or costs t 0
  pub cost_fits : (t : ℕ) → t < n → get_or costs t 0 ≤ get_or periods t 0
  pub period_small : (t : ℕ) → t < n → get_or periods t 0 < 2 ^ 20

-- Periods from 1 up and below 2 ^ 20.
pub record Periods (periods : List ℕ) (n : ℕ) : Type 0 where
  pub with_period : n ≤ length periods
  pub period_pos : (t : ℕ) → t < n → 1 ≤ get_or periods t 0
  pub period_small : (t : ℕ) → t < n → get_or periods t 0 < 2 ^ 20

-- Where the last period of each load ends that begins within y ticks: Up(y, period) × period.
abbrev pub EndsAt : List ℕ → List ℕ → ℕ → ℕ → Type 0
EndsAt periods ends n y = (t : ℕ) → t < n → get_or ends t 0 ≡ up y (get_or periods t 0) * get_or periods t 0

-- Once y ticks have passed, what goes on besides the first n loads: `more` ticks, and what is left of y without what these
-- loads have asked for by then.
abbrev pub afterwards : List ℕ → List ℕ → ℕ → ℕ → ℕ → ℕ
afterwards periods costs n y more = y + more - demand periods costs n y

-- How many loads a search may have.
abbrev pub slots : ℕ
slots = 8

-- After y ticks, `more` ticks besides the first n loads are waited for: the loads have asked for no more than that by y, and the
-- search for its end may stand at y + more.
pub record Waits (periods costs : List ℕ) (n y more : ℕ) : Type 0 where
  pub fit : Fit periods costs n
  pub few : n ≤ slots
  pub asked : demand periods costs n y ≤ y + more
  pub stands : Stands (total periods costs n (afterwards periods costs n y more)) (y + more)
  pub small : y + more < 2 ^ 25

-- What each of the first n loads leaves free of its period.
pub record Frees (periods costs frees : List ℕ) (n : ℕ) : Type 0 where
  pub with_free : n ≤ length frees
  pub is_free : (t : ℕ) → t < n → get_or frees t 0 + get_or costs t 0 ≡ get_or periods t 0

-- That search has the ends of the periods begun by y before it, what the loads leave free, and where it may stand.
pub record After (periods costs frees ends : List ℕ) (n y more start : ℕ) : Type 0 where
  pub waits : Waits periods costs n y more
  pub free : Frees periods costs frees n
  pub with_end : n ≤ length ends
  pub ends_at : EndsAt periods ends n y
  pub starts : Starts (total periods costs n (afterwards periods costs n y more)) (y + more) start

-- The bound of a search is within reach, or a solution is.
abbrev pub Bounded : (ℕ → ℕ) → ℕ → Type 0
Bounded f bound = (bound < reach) ⊎ ComesDown f

-- What it finds: the least solution where that is at most the bound, with the ends of the periods begun by then; else no solution
-- is at or below the bound.
pub record Found (periods costs ends : List ℕ) (n constant bound r : ℕ) : Type 0 where
  pub at : r ≤ bound → IsLeast (total periods costs n constant) r
  pub ends_at : r ≤ bound → EndsAt periods ends n r
  pub beyond : bound < r → (z : ℕ) → 1 ≤ z → z ≡ total periods costs n constant z → bound < z

-- The same as the code answers it: the least solution, at most the bound, with the ends of the periods begun by then; or none, where
-- no solution is at or below the bound.
pub record FoundOr (periods costs ends : List ℕ) (n constant bound : ℕ) (found : Option ℕ) : Type 0 where
  pub within : IfSome found (λ r. r ≤ bound)
  pub at : IfSome found (λ r. IsLeast (total periods costs n constant) r)
  pub ends_at : IfSome found (λ r. EndsAt periods ends n r)
  pub beyond : IfNone found ((z : ℕ) → 1 ≤ z → z ≡ total periods costs n constant z → bound < z)

-- A load whose last period has ended at `end`, before x, asks again, q times. It has caught up where its last period ends at or
-- after what there is then to do.
abbrev pub Ahead : (end x period cost q : ℕ) → Type 0
Ahead end x period cost q = x + q * cost ≤ end + q * period

-- The bound is within reach, or what there is to do is once the load has caught up.
abbrev pub Within : (bound end x period cost : ℕ) → Type 0
Within bound end x period cost = (bound < reach) ⊎ ((p : ℕ) × Ahead end x period cost p × (x + p * cost < reach))

-- Such a load, with what it leaves free of its period. Numbers are small enough for sums to fit.
pub record Behind (end x period cost free bound : ℕ) : Type 0 where
  pub late : end < x
  pub small : x < 2 ^ 25
  pub within : Within bound end x period cost
  pub cost_pos : 1 ≤ cost
  pub parts : free + cost ≡ period
  pub period_small : period < 2 ^ 20

-- Load t asks as often as it takes, where that leaves no more to do than the bound, and its end moves on; else it would be too much,
-- and the ends do not matter. What there is then to do is r.
pub record CaughtUp (ends : List ℕ) (t x period cost bound : ℕ) (after : List ℕ) (r : ℕ) : Type 0 where
  pub least : r ≤ bound → (q : ℕ) × (after ≡ set ends t (get_or ends t 0 + q * period)) × (r ≡ x + q * cost) × Ahead (get_or ends t 0) x period cost q × ((p : ℕ) → Ahead (get_or ends t 0) x period cost p → q ≤ p)
  pub too_much : bound < r → (p : ℕ) → Ahead (get_or ends t 0) x period cost p → bound < x + p * cost
  pub same_length : length after ≡ length ends

-- The same as the code answers it: what there is then to do, at most the bound; or none, where it would be too much.
pub record CaughtUpOr (ends : List ℕ) (t x period cost bound : ℕ) (after : List ℕ) (caught : Option ℕ) : Type 0 where
  pub within : IfSome caught (λ r. r ≤ bound)
  pub least : IfSome caught (λ r. (q : ℕ) × (after ≡ set ends t (get_or ends t 0 + q * period)) × (r ≡ x + q * cost) × Ahead (get_or ends t 0) x period cost q × ((p : ℕ) → Ahead (get_or ends t 0) x period cost p → q ≤ p))
  pub too_much : IfNone caught ((p : ℕ) → Ahead (get_or ends t 0) x period cost p → bound < x + p * cost)
  pub same_length : length after ≡ length ends

-- Each load asks on until its last period ends at or after `start`. Where the ends were those of the periods begun by y, and x was what
-- there is to do by then, they are those of the periods begun by `start`, and r is what there is to do by that.
pub record Advanced (periods costs ends : List ℕ) (n x start : ℕ) (after : List ℕ) (r : ℕ) : Type 0 where
  pub ends_at : (y : ℕ) → y ≤ start → EndsAt periods ends n y → EndsAt periods after n start
  pub to_do : (y constant : ℕ) → y ≤ start → EndsAt periods ends n y → x ≡ total periods costs n constant y → r ≡ total periods costs n constant start
  pub same_length : length after ≡ length ends
