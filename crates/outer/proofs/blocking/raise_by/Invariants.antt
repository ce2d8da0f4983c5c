-- `outer::blocking::raise_by` meets its contract. The loop's invariant: the slots from s on are raised, and the longest is that
-- behind s. Assumes nothing.
use Rattle.std.proofs.Common.{◌≡◌, ◌≤◌}
use Rattle.lists.specs.Range.{behind, raised_from, padded}
use Rattle.table.specs.Limits.{most}
use Rattle.outer.specs.Blocked.{column_of, blocked_in}
use Rattle.outer.proofs.blocking.raise_by.Given as goal

abbrev pub invariant-loop-s : goal.invariant-loop-s
invariant-loop-s l =
    (l.ceiling ≤ l.s) ×
    ((l.longest ≡ behind (column_of l.shown.lines.now l.l) l.shown.n l.s) ×
    (l.blockings ≡ padded (raised_from (column_of l.shown.lines.now l.l) l.shown.n (blocked_in l.shown.lines.now l.shown.n l.l) l.s) 0 most l.shown.n))
