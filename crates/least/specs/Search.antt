-- What a search for a least solution rests on: loads whose sums fit machine numbers, a number at which the search may
-- stand, a number further on at which it may, and one above which it need not look. Assumes nothing.
use Rattle.std.specs.Prelude.{ℕ, ◌≤◌, ◌<◌, ◌^◌, ◌≡◌, List, length, get_or}

-- Every search stays below this number of ticks.
abbrev pub reach : ℕ
reach = 2 ^ 24

-- The first n loads are there, are few, and have periods of 1 or more and costs below 2 ^ 20, so that their sums fit.
pub record Loads (periods costs : List ℕ) (n : ℕ) : Type 0 where
  pub few : n ≤ 16
  pub with_period : n ≤ length periods
  pub with_cost : n ≤ length costs
  pub period_pos : (t : ℕ) → t < n → 1 ≤ get_or periods t 0
  pub cost_small : (t : ℕ) → t < n → get_or costs t 0 < 2 ^ 20

-- The search for the least solution of x = f x from 1 up may stand at x: f is not below x at x, and everything before x
-- is strictly below what f gives there, so that no solution lies before x.
pub record Stands (f : ℕ → ℕ) (x : ℕ) : Type 0 where
  pub from : 1 ≤ x
  pub rises : x ≤ f x
  pub before : (y : ℕ) → 1 ≤ y → y < x → y < f y

-- Some number from 1 up and within reach is one at which f has come down: a least solution of x = f x lies at or below it.
pub record ComesDown (f : ℕ → ℕ) : Type 0 where
  pub top : ℕ
  pub from : 1 ≤ top
  pub within : top < reach
  pub down : f top ≤ top

-- z is the least solution of x = f x from 1 up: everything before z is strictly below what f gives there.
pub record IsLeast (f : ℕ → ℕ) (z : ℕ) : Type 0 where
  pub from : 1 ≤ z
  pub solution : z ≡ f z
  pub before : (y : ℕ) → 1 ≤ y → y < z → y < f y

-- No solution lies before `start`, where that is further on than the search has come: it may stand there. 0 stands for no such number.
pub record Starts (f : ℕ → ℕ) (x start : ℕ) : Type 0 where
  pub stands : x < start → Stands f start
  pub within : start ≤ reach
