-- Ways of handing out a budget, as step 4 and demand 3 speak of them. Ticks and periods count from 0. Assumes nothing.
use Rattle.std.specs.Prelude.{ℕ, ◌+◌, ◌*◌, ◌≤◌, ◌<◌, Bool, false, cond, ◌≡◌}
use Rattle.lists.specs.Range.{sum_to}

-- Which ticks are given: true for a tick that is given, false for one that is withheld.
abbrev pub Way : Type 0
Way = ℕ → Bool

-- 1 where tick a + i is given, 0 where it is withheld.
unfoldable pub tick_given : Way → ℕ → ℕ → ℕ
tick_given w a i = cond (w (a + i)) 1 0

-- How many ticks are given of the window of x ticks that begins at tick a.
unfoldable pub given_in : (w : Way) (a x : ℕ) → ℕ
given_in w a x = sum_to (tick_given w a) x

-- A way of handing out the budget Q in every period of P ticks, before the overrun's share at the period's end:
-- each period j gives exactly Q ticks, and none of its ticks from E on.
pub record IsWay (P Q E : ℕ) (w : Way) : Type 0 where
  pub budget : (j : ℕ) → given_in w (j * P) P ≡ Q
  pub early : (j i : ℕ) → E ≤ i → i < P → w (j * P + i) ≡ false

-- Under every way, every window of x ticks, at whichever tick it begins, holds at least n given ticks.
unfoldable pub AlwaysGiven : (P Q E x n : ℕ) → Type 0
AlwaysGiven P Q E x n = (w : Way) → IsWay P Q E w → (a : ℕ) → n ≤ given_in w a x
