-- `search::ends_at` meets its contract. The loop's invariant: the ends so far are filled in. Assumes nothing.
use Prim.Native.Nat.{ℕ, ◌*◌}
use mathlib.Core.Path.{◌≡◌}
use mathlib.Core.List.{List}
use lib.ListN.{length, get_or}
use Rattle.lists.proofs.Filled.{Filled}
use Rattle.least.specs.Up.{up}
use Rattle.search.proofs.ends_at.Given as goal

abbrev EndOf : List ℕ → ℕ → ℕ → ℕ → Type 0
EndOf periods y i x = x ≡ up y (get_or periods i 0) * get_or periods i 0

abbrev pub invariant-loop-t : goal.invariant-loop-t
invariant-loop-t l = (length l.ends ≡ length l.initial.ends) × Filled 0 (EndOf l.periods l.y) 0 l.ends l.t
