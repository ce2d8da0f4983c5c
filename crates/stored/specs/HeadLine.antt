-- What stands on a subsystem's own line in a block of a grid, once its field is decoded. What stands behind the three numbers
-- means nothing. Assumes nothing.
use Rattle.std.specs.Prelude.{ℕ, ◌≡◌, List, get_or}
use Rattle.table.specs.declared.Subsystem.{Subsystem}

-- The line of a subsystem: P, Q, n.
pub record HeadLine (head : Subsystem) (line : List ℕ) : Type 0 where
  pub period_is : get_or line 0 0 ≡ head.period
  pub budget_is : get_or line 1 0 ≡ head.budget
  pub count_is : get_or line 2 0 ≡ head.count
