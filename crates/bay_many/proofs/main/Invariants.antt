-- The files share one space, one grid and one buffer, whose shapes the loop keeps. Assumes nothing.
use mathlib.Core.Path.{◌≡◌}
use lib.ListN.{length}
use Rattle.table.specs.Grid.{HasBlocks}
use Rattle.bay_many.proofs.main.Given as goal

abbrev pub invariant-loop-k : goal.invariant-loop-k
invariant-loop-k l = (length l.space ≡ 4096) × (length l.buf ≡ 2048) × HasBlocks l.grid
