-- `writer::put_subsystems` meets its contract: the loop's invariant: the first subsystems are put. Assumes nothing.
use mathlib.Core.List.{flat_map}
use Rattle.table.specs.Meaning.{subsystem_at}
use Rattle.lists.specs.Range.{up_to}
use Rattle.stored.specs.Write.{IsPut}
use Rattle.stored.specs.File.{subsystem_bytes}
use Rattle.writer.proofs.put_subsystems.Given as goal

abbrev pub invariant-loop-sub : goal.invariant-loop-sub
invariant-loop-sub l = IsPut (flat_map subsystem_bytes (up_to (subsystem_at l.fn.t) l.sub-index)) l.initial.free l.free l.at
