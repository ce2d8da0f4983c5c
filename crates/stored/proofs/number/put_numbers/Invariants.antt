-- `stored::number::put_numbers` meets its contract. The loop's invariant: the numbers so far are put. Assumes nothing.
use mathlib.Core.List.{flat_map}
use Rattle.lists.specs.Range.{up_to}
use Rattle.stored.specs.File.{number_bytes}
use Rattle.stored.specs.Write.{IsPut}
use Rattle.stored.proofs.Elements.{element_at}
use Rattle.stored.proofs.number.put_numbers.Given as goal

abbrev pub invariant-loop-x : goal.invariant-loop-x
invariant-loop-x l = IsPut (flat_map number_bytes (up_to (element_at 0 l.numbers) l.x-index)) l.initial.free l.free l.at
