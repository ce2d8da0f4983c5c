-- Laws of what breaks a rule: how a test in the code settles the definition. Assumes nothing.
use Prim.Native.Nat.{ℕ, ◌+◌, ◌≤◌, ◌<◌, max}
use native.Mathlib.Nat.{le_trans}
use native.Mathlib.Omega.{arith}
use mathlib.Core.Logic.{◌⊎◌, inl, inr}
use mathlib.Core.Path.{◌≡◌, refl, sym, ap, ◌∙◌}
use mathlib.Core.Bool.{Bool, false, not, ◌||◌}
use mathlib.Core.List.{List}
use borrow.Author.Tests.{lt-ltb, le-ltb, le-leb, lt-leb}
use lib.Dec.{ltb, leb}
use Rattle.lists.specs.Range.{all_to, largest_to}
use Rattle.lists.proofs.Over.{le_or_lt, all_to_ext, all_to_is, all_to_fails, below_largest, largest_reached, largest_to_suc}
use Rattle.table.specs.Limits.{largest}
use Rattle.table.specs.Grid.{period_in, budget_in, separation_in, work_in, deadline_in, access_in, task_in, subsystem_in}
use Rattle.table.proofs.GridLaws.{access_of_line}
use Rattle.holding.specs.Holding.{holding}
use Rattle.rules.specs.declared.Rule.TheVariants.{Range, Order, Access, Overrun}
use Rattle.rules.specs.Rules.{access_within, some_access_above, time_out, subsystem_breaks, task_breaks}

-- A turn of the longest access of a task.
pub access_turn : (block : List (List ℕ)) (i l longest x : ℕ) → longest ≡ largest_to (access_in block i) l → x ≡ access_in block i l → max longest x ≡ largest_to (access_in block i) (l + 1)
access_turn block i l longest x e f = rw (largest_to_suc (access_in block i) l, e, f) refl

-- Some number is above a limit exactly where the largest is.
above_by_largest : (f : ℕ → ℕ) (limit n : ℕ) → not (all_to (λ l. leb (f l) limit) n) ≡ ltb limit (largest_to f n)
above_by_largest f limit n = go (le_or_lt (largest_to f n) limit) (largest_reached f n)
  where
    none_above : largest_to f n ≤ limit → not (all_to (λ l. leb (f l) limit) n) ≡ ltb limit (largest_to f n)
    none_above h =
        rw (all_to_is (λ l. leb (f l) limit) n (λ l k. le-leb (f l) limit (le_trans (below_largest f n l k) h)), le-ltb limit (largest_to f n) h) refl

    go :
        (largest_to f n ≤ limit) ⊎ (limit < largest_to f n) → (largest_to f n ≡ 0) ⊎ ((i : ℕ) × (i < n) × (f i ≡ largest_to f n)) →
        not (all_to (λ l. leb (f l) limit) n) ≡ ltb limit (largest_to f n)
    go (inl h) r = none_above h
    go (inr h) (inl z) = none_above (omega arith)
    go (inr h) (inr r) =
        rw (all_to_fails (λ l. leb (f l) limit) n r.0 r.1 (lt-leb (f r.0) limit (rw r.2 h)), lt-ltb limit (largest_to f n) h) refl

module _ (m : ℕ) (block : List (List ℕ)) (i longest : ℕ) (e : longest ≡ largest_to (access_in block i) m) where
  access_above : (limit : ℕ) → ltb limit longest ≡ some_access_above m limit (task_in m block i)
  unfolding some_access_above access_within
  access_above limit =
      rw e
      (sym (ap not (all_to_ext (access_within limit (task_in m block i)) (λ l. leb (access_in block i l) limit) m (λ l k. ap (λ (x : ℕ). leb x limit) (access_of_line m block i l k))) ∙
      above_by_largest (access_in block i) limit m))

  -- What the code tests of a task, rule by rule.
  pub task_range : (b : Bool) → b ≡ (time_out (separation_in block i) || time_out (work_in block i) || time_out (deadline_in block i) || ltb largest longest) → task_breaks m Range (task_in m block i) ≡ b
  unfolding task_breaks task_in
  task_range b f = sym (f ∙ rw (access_above largest) refl)

  pub task_access : ltb (work_in block i) longest ≡ task_breaks m Access (task_in m block i)
  unfolding task_breaks task_in
  task_access = access_above (work_in block i)

pub task_order : (m : ℕ) (block : List (List ℕ)) (i : ℕ) (b : Bool) → b ≡ (ltb (deadline_in block i) (work_in block i) || ltb (separation_in block i) (deadline_in block i)) → task_breaks m Order (task_in m block i) ≡ b
unfolding task_breaks task_in
task_order m block i b f = sym f

-- And of a subsystem at its own place.
module _ (m : ℕ) (block : List (List ℕ)) where
  pub own_range : (b : Bool) → b ≡ (time_out (period_in block) || time_out (budget_in block)) → subsystem_breaks m Range (subsystem_in m block) ≡ b
  unfolding subsystem_breaks subsystem_in
  own_range b f = sym f

  pub own_order : subsystem_breaks m Order (subsystem_in m block) ≡ ltb (period_in block) (budget_in block)
  unfolding subsystem_breaks subsystem_in
  own_order = refl

  pub own_access : subsystem_breaks m Access (subsystem_in m block) ≡ false
  unfolding subsystem_breaks
  own_access = refl

  pub own_overrun : (p b x : ℕ) → p ≡ period_in block → b ≡ budget_in block → x ≡ holding m (subsystem_in m block) → subsystem_breaks m Overrun (subsystem_in m block) ≡ ltb p (b + x)
  unfolding subsystem_breaks subsystem_in
  own_overrun p b x e f g = rw (e, f, g) refl
