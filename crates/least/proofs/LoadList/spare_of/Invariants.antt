-- `least::LoadList::spare_of` meets its contract. The loop's invariant: the sum is the shares of the loads passed so far, each below 2 ^ 60.
-- Assumes nothing.
use Prim.Native.Nat.{◌*◌, ◌^◌, ◌≤◌}
use mathlib.Core.Path.{◌≡◌}
use Rattle.least.specs.Share.{shares}
use Rattle.least.proofs.LoadList.spare_of.Given as goal

abbrev pub invariant-loop-j : goal.invariant-loop-j
invariant-loop-j l =
    (l.sum ≡ shares l.self.periods.now l.self.costs.now l.j) × (l.sum ≤ l.j * 2 ^ 60)
