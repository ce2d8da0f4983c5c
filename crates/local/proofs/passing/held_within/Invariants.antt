-- `local::passing::held_within` answers for every moment: no moment before x will do. Assumes nothing.
use Prim.Native.Nat.{◌+◌, ◌-◌, ◌≤◌}
use Rattle.least.specs.Demand.{total}
use Rattle.local.proofs.PassingLaws.{Stands}
use Rattle.local.proofs.passing.held_within.Given as goal

abbrev pub invariant-loop-x : goal.invariant-loop-x
invariant-loop-x l =
    (l.x ≤ l.deadline + 1) × Stands (total l.tasks.periods.now l.tasks.costs.now l.i l.constant) l.share.period l.share.budget l.share.end l.x

abbrev pub decreases-loop-x : goal.decreases-loop-x
decreases-loop-x l = l.deadline + 1 - l.x
