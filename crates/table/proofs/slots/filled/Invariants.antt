-- `table::slots::filled` meets its contract. The loop's invariant: the array is filled up to s, whatever the values are. Assumes nothing.
use Rattle.std.proofs.Common.{◌≡◌, ℕ, ◌<◌}
use Rattle.lists.specs.Range.{padded}
use Rattle.table.specs.Limits.{most}
use Rattle.table.proofs.slots.filled.Given as goal

abbrev pub invariant-loop-s : goal.invariant-loop-s
invariant-loop-s g l = (f : ℕ → g.row.T.Denot) → ((s : ℕ) (x : g.row.T.Denot) → s < l.n → g.F.Fn.post l.fn.value (s, tt) x → x ≡ f s) → l.slots ≡ padded f l.fn.empty most l.s
