-- `local::passing::moment_within` gives the moment, or one past the deadline: a moment is never sooner than its need.
-- Assumes nothing.
use native.Mathlib.Omega.{arith}
use Rattle.supply.proofs.MomentLaws.{moment_not_sooner}
use Rattle.local.proofs.passing.moment_within.Goals as goal

pub returns-then-last-need : goal.returns-then-last-need
returns-then-last-need c =
    omega (
      arith,
      moment_not_sooner c.args.share.now.period c.args.share.now.budget c.args.share.now.end c.args.share.now.budget_least c.args.share.now.budget_by_end
          c.args.share.now.end_by_period c.args.need (omega arith),
    )
