-- `reader::read::read_tasks` meets its contract: the loop's invariant: what is read of the first i tasks, and that what
-- is left gives the answer. Assumes nothing.
use Rattle.reader.proofs.ReadTasks.{TasksTo}
use Rattle.reader.proofs.read.read_tasks.Given as goal

abbrev pub invariant-loop-i : goal.invariant-loop-i
invariant-loop-i l = TasksTo l.file l.m l.at l.n l.i l.place l.block
