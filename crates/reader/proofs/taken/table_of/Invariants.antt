-- `reader::taken::table_of` meets its contract: the loop's invariant: the table with its first s subsystems. Assumes
-- nothing.
use mathlib.Core.Path.{◌≡◌}
use Rattle.table.specs.Grid.{system_in}
use Rattle.reader.proofs.TakenLaws.{table_up_to}
use Rattle.reader.proofs.taken.table_of.Given as goal

abbrev pub invariant-loop-s : goal.invariant-loop-s
invariant-loop-s l = l.t ≡ table_up_to (system_in l.n l.m l.grid) l.s
