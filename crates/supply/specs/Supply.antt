-- The supply of step 4: a formula. Assumes nothing.
use Rattle.std.specs.Prelude.{ℕ, ◌+◌, ◌-◌, ◌*◌, ◌/◌, cond, ltb}

-- Step 4. What a window of x ticks is sure to hold, for a period P, a budget Q and a giving end E: the budget is given among
-- a period's first E ticks, before the overrun's share. A difference here is 0 where it would be negative, so the last sum's second part is step 4's max(0, …).
unfoldable pub supply : (P Q E x : ℕ) → ℕ
supply P Q E x =
    let y = (x - (E - Q)) / P in
    cond (ltb x (E - Q)) 0 (y * Q + (x - (P + E - 2 * Q) - y * P))
