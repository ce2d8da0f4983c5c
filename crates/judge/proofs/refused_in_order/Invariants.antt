-- `judge::refused_in_order` meets its contract. Assumes nothing.
use Prim.Native.Nat.{◌≤◌}
use Rattle.table.specs.Limits.{most}
use Rattle.rules.proofs.EarlierLaws.{JudgedBelow}
use Rattle.judge.proofs.refused_in_order.Given as goal

abbrev pub invariant-loop-s : goal.invariant-loop-s
invariant-loop-s l = (l.s-end ≤ most) × JudgedBelow l.laid.n l.laid.m l.laid.grid.now l.s l.found
