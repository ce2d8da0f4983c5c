-- `stored::decode::decode_task` meets its contract: the loop's invariant is the line with its first l accesses. Assumes nothing.
use Rattle.table.specs.Grid.{IsLine, LineOf}
use Rattle.stored.specs.Decode.{decoded_task}
use Rattle.stored.proofs.decode.decode_task.Given as goal

abbrev pub invariant-loop-l : goal.invariant-loop-l
invariant-loop-l l = IsLine l.line × LineOf l.l (decoded_task l.m l.value) l.line
