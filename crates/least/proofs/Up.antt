-- What Up(a, b) satisfies for b of 1 or more: up a b * b lies between a and a + b - 1, and that says which number it is.
-- Assumes nothing.
use Prim.Native.Nat.{ℕ, suc, ◌+◌, ◌-◌, ◌*◌, ◌/◌, ◌≤◌, ◌<◌}
use native.Mathlib.Nat.{div-mul-le_self, lt-div-mul-add, lt_of_mul-lt-mul_right, le_of_suc-le-suc, suc-mul, zero-mul, add-div_right, le-mul_of_pos_right}
use native.Mathlib.Omega.{arith}
use mathlib.Core.Path.{◌≡◌, sym, ◌∙◌, ap}
use Rattle.least.specs.Up.{up}

-- The blocks hold a ticks.
pub up_holds : (a b : ℕ) → 1 ≤ b → a ≤ up a b * b
unfolding up
up_holds a b h = omega (arith, lt-div-mul-add {a = a + (b - 1)} h)

-- And no block is left over.
pub up_is_tight : (a b : ℕ) → 1 ≤ b → up a b * b ≤ a + (b - 1)
unfolding up
up_is_tight a b h = div-mul-le_self (a + (b - 1)) b

-- Any number of blocks that hold a ticks is at least Up(a, b).
pub up_is_least : (a b n : ℕ) → 1 ≤ b → a ≤ n * b → up a b ≤ n
up_is_least a b n h e =
    let below : up a b * b < suc n * b = omega (arith, up_is_tight a b h, suc-mul n b) in
    le_of_suc-le-suc (lt_of_mul-lt-mul_right b below)

-- A longer time takes no fewer blocks.
pub up_mono : {a c : ℕ} (b : ℕ) → 1 ≤ b → a ≤ c → up a b ≤ up c b
up_mono {a} {c} b h e = up_is_least a b (up c b) h (omega (arith, up_holds c b h))

-- Some time takes some block.
pub up_pos : (a b : ℕ) → 1 ≤ b → 1 ≤ a → 1 ≤ up a b
up_pos a b h e = lt_of_mul-lt-mul_right b (omega (arith, up_holds a b h, zero-mul b))

-- No time takes no block.
pub up_zero : (b : ℕ) → 1 ≤ b → up 0 b ≡ 0
up_zero b h = omega (arith, up_is_least 0 b 0 h (omega arith))

-- There are no more blocks than ticks.
pub up_at_most : (a b : ℕ) → 1 ≤ b → up a b ≤ a
up_at_most a b h = up_is_least a b a h (le-mul_of_pos_right a h)

-- What the code computes: the blocks before the last tick, and the one that the last tick is in.
pub up_by_last_tick : (a b : ℕ) → 1 ≤ b → 1 ≤ a → (a - 1) / b + 1 ≡ up a b
unfolding up
up_by_last_tick a b h e =
    let same : a + (b - 1) ≡ a - 1 + b = omega arith in
    sym (ap (λ (z : ℕ). z / b) same ∙ add-div_right (a - 1) h)
