-- `least::LoadList::demand_in` meets its contract. The loop's invariant: the sum is what the loads passed so far ask for.
-- Assumes nothing.
use mathlib.Core.Path.{◌≡◌}
use Rattle.least.specs.Demand.{demand}
use Rattle.least.proofs.LoadList.demand_in.Given as goal

abbrev pub invariant-loop-t : goal.invariant-loop-t
invariant-loop-t l = (l.sum ≡ demand l.self.periods.now l.self.costs.now l.t l.x)
