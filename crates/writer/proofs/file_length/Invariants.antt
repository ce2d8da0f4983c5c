-- `writer::file_length` meets its contract: the loop's invariant: the length of the header and the first s
-- subsystems, and a bound of it. Assumes nothing.
use Prim.Native.Nat.{◌≤◌, ◌+◌, ◌*◌}
use lib.ListN.{length}
use mathlib.Core.Path.{◌≡◌}
use mathlib.Core.List.{flat_map}
use Rattle.table.specs.Meaning.{subsystem_at}
use Rattle.lists.specs.Range.{up_to}
use Rattle.stored.specs.File.{subsystem_bytes}
use Rattle.stored.specs.Field.{field_size, header_length}
use Rattle.writer.proofs.file_length.Given as goal

abbrev pub invariant-loop-s : goal.invariant-loop-s
invariant-loop-s l = (l.total ≡ field_size header_length + length (flat_map subsystem_bytes (up_to (subsystem_at l.t) l.s))) × (l.total ≤ field_size header_length + l.s * 263937)
