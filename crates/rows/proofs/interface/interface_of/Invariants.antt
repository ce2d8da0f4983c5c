-- `rows::interface::interface_of` meets its contract. Assumes nothing.
use Rattle.rows.proofs.InterfaceLaws.{LineTo}
use Rattle.rows.proofs.interface.interface_of.Given as goal

abbrev pub invariant-loop-l : goal.invariant-loop-l
invariant-loop-l l = LineTo l.m l.block l.line l.l
