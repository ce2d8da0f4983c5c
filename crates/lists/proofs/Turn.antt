-- What a turn of a loop that counts i up to n needs of the two numbers. Over plain variables, and cited with the loop's
-- test: at a place of a loop, `omega` and `search` go through every fact that the place knows. Assumes nothing.
use Prim.Native.Nat.{ℕ, ◌+◌, ◌-◌, ◌≤◌, ◌<◌}
use native.Mathlib.Omega.{arith}

-- The next number is still within the range.
pub turn_within : (i n : ℕ) → i < n → i + 1 ≤ n
turn_within i n h = omega (arith, h)

-- Less is left after the turn.
pub turn_less : (i n : ℕ) → i < n → n - (i + 1) < n - i
turn_less i n h = omega (arith, h)
