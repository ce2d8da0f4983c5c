-- `search::advanced` meets its contract. The loop's invariant: the loads so far have asked on until `start`. Assumes nothing.
use Rattle.search.proofs.AdvanceLaws.{Advancing}
use Rattle.search.proofs.advanced.Given as goal

abbrev pub invariant-loop-t : goal.invariant-loop-t
invariant-loop-t l =
    Advancing l.loads.periods.now l.loads.costs.now l.initial.ends l.x l.start l.t l.ends l.sum
