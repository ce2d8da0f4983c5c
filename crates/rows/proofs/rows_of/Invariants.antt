-- `rows::rows_of` meets its contract. Assumes nothing.
use Prim.Native.Nat.{◌≤◌}
use mathlib.Core.Path.{◌≡◌}
use Rattle.lists.specs.Range.{padded}
use Rattle.table.specs.Limits.{most}
use Rattle.table.specs.Grid.{system_in}
use Rattle.rows.specs.Rows.{row_at, no_row}
use Rattle.rows.proofs.rows_of.Given as goal

abbrev pub invariant-loop-s : goal.invariant-loop-s
invariant-loop-s l = (l.n ≤ most) × (l.rows ≡ padded (row_at (system_in l.n l.m l.grid)) no_row most l.s)
