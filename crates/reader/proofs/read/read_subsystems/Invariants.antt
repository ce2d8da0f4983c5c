-- `reader::read::read_subsystems` meets its contract: the loop's invariant: what is read of the first s subsystems, and
-- that what is left gives the answer. Assumes nothing.
use Rattle.reader.proofs.ReadSubsystems.{SubsystemsTo}
use Rattle.reader.proofs.read.read_subsystems.Given as goal

abbrev pub invariant-loop-s : goal.invariant-loop-s
invariant-loop-s l = SubsystemsTo l.file l.m l.n l.s l.at l.grid
