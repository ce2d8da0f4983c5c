-- `reader::taken::subsystem_of` meets its contract: the loop's invariant: the subsystem with its first i tasks. Assumes
-- nothing.
use mathlib.Core.Path.{◌≡◌}
use Rattle.table.specs.Grid.{subsystem_in}
use Rattle.reader.proofs.TakenLaws.{subsystem_up_to}
use Rattle.reader.proofs.taken.subsystem_of.Given as goal

abbrev pub invariant-loop-i : goal.invariant-loop-i
invariant-loop-i l = l.sub ≡ subsystem_up_to (subsystem_in l.m l.block) l.i
