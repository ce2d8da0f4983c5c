-- The moment at which the supply reaches a number of ticks: a formula. Assumes nothing.
use Rattle.std.specs.Prelude.{ℕ, ◌+◌, ◌-◌, ◌*◌, ◌/◌, ◌%◌}

-- The shortest window that is sure to hold n ticks, n at least 1: the longest gap, P + E − 2 Q, a period for each whole
-- budget among the n − 1 ticks before the last, and as many ticks as the budget that is begun then gives.
-- proofs/MomentLaws.antt says that it is the shortest.
unfoldable pub moment_of : (P Q E n : ℕ) → ℕ
moment_of P Q E n = P - Q + (E - Q) + (n - 1) / Q * P + ((n - 1) % Q + 1)
