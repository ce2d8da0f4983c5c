-- `least::LoadList::fitting` meets its contract. The loop's invariant: the loads so far ask for no more than every tick has. Assumes nothing.
use Prim.Native.Nat.{◌≤◌}
use mathlib.Core.Path.{◌≡◌}
use Rattle.least.specs.Share.{unit, shares}
use Rattle.least.proofs.LoadList.fitting.Given as goal

abbrev pub invariant-loop-j : goal.invariant-loop-j
invariant-loop-j l = (l.sum ≡ shares l.self.periods.now l.self.costs.now l.j) × (l.sum ≤ unit)
