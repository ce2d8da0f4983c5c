-- `rows::interface::interfaces_of` meets its contract. Assumes nothing.
use Prim.Native.Nat.{◌≤◌}
use Rattle.table.specs.Limits.{most}
use Rattle.rows.proofs.InterfaceLaws.{LinesTo}
use Rattle.rows.proofs.interface.interfaces_of.Given as goal

abbrev pub invariant-loop-s : goal.invariant-loop-s
invariant-loop-s l = (l.n ≤ most) × LinesTo l.n l.m l.grid l.lines l.s
