-- Up(a, b): a divided by b, rounded up. Its laws are in proofs/Up.antt. Assumes nothing.
use Rattle.std.specs.Prelude.{ℕ, ◌+◌, ◌-◌, ◌/◌}

-- The least number of blocks of b ticks that hold a ticks. It has its meaning where b is 1 or more.
unfoldable pub up : ℕ → ℕ → ℕ
up a b = (a + (b - 1)) / b
