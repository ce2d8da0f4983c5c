-- Laws of the search for the first failing task. Assumes nothing.
use Prim.Native.Nat.{ℕ, ◌+◌, ◌-◌, ◌≤◌, ◌<◌}
use mathlib.Core.Path.{◌≡◌, refl, sym, ap, ◌∙◌}
use mathlib.Core.Bool.{Bool, true, false, not}
use native.Mathlib.Nat.{sub-zero}
use Rattle.lists.specs.Range.{first_such}
use Rattle.lists.proofs.First.{first_such_here, first_such_next, first_such_over}
use mathlib.Core.List.{List}
use Rattle.table.specs.Grid.{count_in, subsystem_in}
use Rattle.table.proofs.GridLaws.{count_of_block}
use Rattle.local.specs.Passing.{task_passes, task_fails, figure, first_failing}

module _ (m : ℕ) (block : List (List ℕ)) (end : ℕ) where
  -- The search stands at i: the first failing task from i on decides.
  unfoldable pub FailingFrom : ℕ → Type 0
  FailingFrom i =
      first_failing m (subsystem_in m block) end ≡ figure (first_such (task_fails m (subsystem_in m block) end) (count_in block - i) i)

  pub failing_from_zero : FailingFrom 0
  unfolding FailingFrom first_failing
  failing_from_zero = rw (count_of_block m block, sub-zero) refl

  -- What the turn at i found, whether its task passes, and what the test of that said.
  pub failing_here :
      (i : ℕ) → i < count_in block → (passed : Bool) → passed ≡ task_passes m (subsystem_in m block) end i → not passed ≡ true → FailingFrom i →
      i + 1 ≡ first_failing m (subsystem_in m block) end
  unfolding FailingFrom task_fails
  failing_here i h passed e t f =
      sym (f ∙ ap figure (first_such_here (task_fails m (subsystem_in m block) end) (count_in block) i h (ap not (sym e) ∙ t)))

  pub failing_next :
      (i : ℕ) → i < count_in block → (passed : Bool) → passed ≡ task_passes m (subsystem_in m block) end i → not passed ≡ false → FailingFrom i →
      FailingFrom (i + 1)
  unfolding FailingFrom task_fails
  failing_next i h passed e t f =
      f ∙ ap figure (first_such_next (task_fails m (subsystem_in m block) end) (count_in block) i h (ap not (sym e) ∙ t))

  pub failing_over : (i : ℕ) → count_in block ≤ i → FailingFrom i → 0 ≡ first_failing m (subsystem_in m block) end
  unfolding FailingFrom
  failing_over i h f = sym (f ∙ ap figure (first_such_over (task_fails m (subsystem_in m block) end) (count_in block) i h))
