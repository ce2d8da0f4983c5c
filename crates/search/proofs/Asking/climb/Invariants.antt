-- `search::Asking::climb` meets its contract. The invariant of both loops: x is what there is to do once the loads have asked as often as `ends`
-- says, and at most the bound; in a pass, unless x has grown in it, the loads so far are ahead (`Passed`). Assumes nothing.
use Prim.Native.Nat.{◌-◌, ◌^◌, ◌≤◌, ◌<◌}
use mathlib.Core.Path.{◌≡◌}
use lib.ListN.{length}
use Rattle.search.specs.After.{afterwards}
use Rattle.search.proofs.ClimbLaws.{Climbing}
use Rattle.search.proofs.PassLaws.{Passed}
use Rattle.search.proofs.Asking.climb.Given as goal

abbrev pub invariant-loop-t : goal.invariant-loop-t
invariant-loop-t l =
    (length l.ends ≡ length l.fn.ends) × Climbing l.self.loads.periods.now l.self.loads.costs.now l.ends l.n (afterwards l.self.loads.periods.now l.self.loads.costs.now l.n l.y l.more) l.x × (l.x < 2 ^ 25) × Passed l.ends l.before l.x l.t × (l.x ≤ l.bound)

abbrev pub invariant-passes : goal.invariant-passes
invariant-passes l =
    (length l.ends ≡ length l.fn.ends) × Climbing l.self.loads.periods.now l.self.loads.costs.now l.ends l.n (afterwards l.self.loads.periods.now l.self.loads.costs.now l.n l.y l.more) l.x × (l.x < 2 ^ 25) × (l.x ≤ l.bound)

abbrev pub decreases-passes : goal.decreases-passes
decreases-passes l = 2 ^ 25 - l.x
