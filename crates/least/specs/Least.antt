-- The least solution of x = constant + demand of the first n loads in x ticks. Steps 7, 9 and 10 are such solutions.
-- Theorems in proofs/LeastLaws.antt say that it is the least, and that none means that none is in range. Assumes nothing.
use Rattle.std.specs.Prelude.{ℕ, Bool, List, eqb}
use Rattle.std.proofs.Math.Option.{Option}
use Rattle.lists.specs.Range.{first_such}
use Rattle.least.specs.Demand.{total}

-- Whether x solves x = constant + demand in x ticks.
unfoldable pub solves : List ℕ → List ℕ → ℕ → ℕ → ℕ → Bool
solves periods costs n constant x = eqb x (total periods costs n constant x)

-- The first of 1, 2, …, bound that solves it; none where none does. A solution of 0 does not count.
unfoldable pub least : List ℕ → List ℕ → ℕ → ℕ → ℕ → Option ℕ
least periods costs n constant bound = first_such (solves periods costs n constant) bound 1
