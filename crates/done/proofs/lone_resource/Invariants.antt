-- `done::lone_resource` meets its contract. The loop's invariant: of the resources so far only the lone one is held, if there is
-- one, and its ceiling is s. Assumes nothing.
use Prim.Native.Nat.{ℕ, ◌<◌}
use mathlib.Core.Path.{◌≡◌}
use lib.ListN.{get_or}
use Rattle.std.specs.Prelude.{Some, IfSome}
use Rattle.done.proofs.lone_resource.Given as goal

abbrev pub invariant-loop-l : goal.invariant-loop-l
invariant-loop-l l =
    ((t : ℕ) → t < l.l → (l.lone ≡ Some t → ⊥) → get_or l.holdings t 0 ≡ 0) × IfSome l.lone (λ j. (j < l.l) × (0 < get_or l.holdings j 0) × (get_or l.ceilings j 0 ≡ l.s))
