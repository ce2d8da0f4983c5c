-- `table::slots::raise_behind` meets its contract. The loop's invariant, whatever the values are: the slots from s on are raised, and the
-- longest is that behind s. Assumes nothing.
use Rattle.std.proofs.Common.{◌≡◌, ℕ, ◌<◌, ◌≤◌}
use Rattle.lists.specs.Range.{behind, raised_from, padded}
use Rattle.table.specs.Limits.{most}
use Rattle.table.proofs.slots.raise_behind.Given as goal

abbrev pub invariant-loop-s : goal.invariant-loop-s
invariant-loop-s g l =
    (l.ceiling ≤ l.s) ×
    ((f a : ℕ → ℕ) → ((s x : ℕ) → s < l.n → g.F.Fn.post l.fn.value (s, tt) x → x ≡ f s) → l.fn.slots ≡ padded a 0 most l.n →
    (l.longest ≡ behind f l.n l.s) × (l.slots ≡ padded (raised_from f l.n a l.s) 0 most l.n))
