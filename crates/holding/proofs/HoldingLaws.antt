-- Laws of the inner ceiling and the holding times: what each turn of a search, a sum or a largest settles, read off the block.
-- Assumes nothing.
use Prim.Native.Nat.{ℕ, zero, suc, ◌+◌, ◌-◌, ◌≤◌, ◌<◌, max}
use native.Mathlib.Nat.{sub-zero, le_trans}
use native.Mathlib.Omega.{arith}
use mathlib.Core.Path.{◌≡◌, refl, sym, ap, ◌∙◌}
use mathlib.Core.Bool.{Bool, cond}
use mathlib.Core.Option.{Option, none, some, get_or}
use borrow.Author.Tests.{lt-ltb, le-ltb}
use mathlib.Core.List.{List}
use lib.Dec.{ltb}
use lib.ListN.{replicate}
use Rattle.lists.specs.Range.{sum_to, largest_to, first_such, padded}
use Rattle.lists.proofs.First.{first_such_here, first_such_next, first_such_over, first_such_means, first_such_ext}
use Rattle.lists.proofs.Over.{sum_to_suc, sum_to_ext, largest_to_ext, below_largest}
use Rattle.table.specs.Limits.{most}
use Rattle.table.specs.Meaning.{SubsystemM}
use Rattle.table.specs.Parts.{task_count, task_of, access_of, work_of}
use Rattle.table.specs.Grid.{count_in, work_in, access_in, subsystem_in, block_in, system_in}
use Rattle.table.proofs.GridLaws.{count_of_block, work_of_block, access_of_block, count_of_grid, subsystem_of_grid}
use Rattle.holding.specs.Holding.{uses, inner_ceiling, work_above, task_holding, resource_holding, holding}
use Rattle.holding.specs.Held.{access_to, holdings_at, HeldIn}

-- The longest of what counts only where it is above 0, each with the same on top of it: the longest alone, and then the top.
largest_on_top : (f : ℕ → ℕ) (a n : ℕ) → largest_to (λ i. cond (ltb 0 (f i)) (f i + a) 0) n ≡ cond (ltb 0 (largest_to f n)) (largest_to f n + a) 0
unfolding largest_to
largest_on_top f a zero = refl
largest_on_top f a (suc n) = rw (largest_on_top f a n) (either (largest_to f n) (f n))
  where
    either : (x y : ℕ) → max (cond (ltb 0 x) (x + a) 0) (cond (ltb 0 y) (y + a) 0) ≡ cond (ltb 0 (max x y)) (max x y + a) 0
    either zero zero = refl
    either zero (suc y) = rw (lt-ltb 0 (suc y) (omega arith), lt-ltb 0 (max 0 (suc y)) (omega arith)) (omega arith)
    either (suc x) zero = rw (lt-ltb 0 (suc x) (omega arith), lt-ltb 0 (max (suc x) 0) (omega arith)) (omega arith)
    either (suc x) (suc y) =
        rw (lt-ltb 0 (suc x) (omega arith), lt-ltb 0 (suc y) (omega arith), lt-ltb 0 (max (suc x) (suc y)) (omega arith)) (omega arith)

module _ (block : List (List ℕ)) (l : ℕ) where
  -- Whether the task at index i accesses resource l, by the block.
  abbrev uses_in : ℕ → Bool
  uses_in i = ltb 0 (access_in block i l)

  -- The search for the ceiling stands at i: the first user among the tasks from i on decides.
  unfoldable pub CeilingFrom : ℕ → Type 0
  CeilingFrom i = first_such uses_in (count_in block) 0 ≡ first_such uses_in (count_in block - i) i

  pub ceiling_from_zero : CeilingFrom 0
  unfolding CeilingFrom
  ceiling_from_zero = rw sub-zero refl

  pub ceiling_next : (i x : ℕ) → i < count_in block → x ≡ access_in block i l → x ≤ 0 → CeilingFrom i → CeilingFrom (i + 1)
  unfolding CeilingFrom
  ceiling_next i x h e u c = c ∙ first_such_next uses_in (count_in block) i h (le-ltb 0 (access_in block i l) (rw (← e) u))

  module _ (m : ℕ) (k : l < m) where
    uses_block : (i : ℕ) → i < count_in block → uses (subsystem_in m block) l i ≡ uses_in i
    unfolding uses
    uses_block i h = ap (ltb 0) (access_of_block m block i h l k)

    ceiling_by_block : inner_ceiling (subsystem_in m block) l ≡ get_or (first_such uses_in (count_in block) 0) (count_in block - 1)
    unfolding inner_ceiling
    ceiling_by_block =
        rw (count_of_block m block)
        (ap (λ (o : Option ℕ). get_or o (count_in block - 1))
        (first_such_ext (uses (subsystem_in m block) l) uses_in (count_in block) 0 (λ y a b. uses_block y (omega arith))))

    pub ceiling_here : (i x : ℕ) → i < count_in block → x ≡ access_in block i l → 0 < x → CeilingFrom i → i ≡ inner_ceiling (subsystem_in m block) l
    unfolding CeilingFrom
    ceiling_here i x h e u c =
        sym (ceiling_by_block ∙
        ap (λ (o : Option ℕ). get_or o (count_in block - 1))
        (c ∙ first_such_here uses_in (count_in block) i h (lt-ltb 0 (access_in block i l) (rw (← e) u))))

    pub ceiling_over : (i : ℕ) → count_in block ≤ i → CeilingFrom i → count_in block - 1 ≡ inner_ceiling (subsystem_in m block) l
    unfolding CeilingFrom
    ceiling_over i h c =
        sym (ceiling_by_block ∙
        ap (λ (o : Option ℕ). get_or o (count_in block - 1)) (c ∙ first_such_over uses_in (count_in block) i h))

    -- The ceiling is the index of a task.
    pub ceiling_is_a_task : 1 ≤ count_in block → inner_ceiling (subsystem_in m block) l < count_in block
    ceiling_is_a_task h = rw ceiling_by_block (go (first_such uses_in (count_in block) 0) refl)
      where
        go : (o : Option ℕ) → first_such uses_in (count_in block) 0 ≡ o → get_or o (count_in block - 1) < count_in block
        go none e = omega arith
        go (some x) e = omega (arith, (first_such_means uses_in (count_in block) 0 x e).within)

    -- The sum of the works up to the ceiling is the work above it.
    pub work_above_is :
        1 ≤ count_in block → (sum j : ℕ) → j ≡ inner_ceiling (subsystem_in m block) l → sum ≡ sum_to (work_in block) j →
        sum ≡ work_above (subsystem_in m block) l
    unfolding work_above
    work_above_is h sum j e f =
        f ∙ ap (sum_to (work_in block)) e ∙
        sum_to_ext (work_in block) (work_of (subsystem_in m block)) (inner_ceiling (subsystem_in m block) l)
        (λ i q. sym (work_of_block m block i (omega (arith, ceiling_is_a_task h))))

    -- X(s, l) by the longest access.
    resource_holding_by :
        resource_holding (subsystem_in m block) l ≡
        cond (ltb 0 (largest_to (access_to block l) (count_in block))) (largest_to (access_to block l) (count_in block) + work_above (subsystem_in m block) l) 0
    unfolding resource_holding task_holding
    resource_holding_by =
        rw (count_of_block m block)
        (largest_to_ext (task_holding (subsystem_in m block) l) (λ i. cond (ltb 0 (access_to block l i)) (access_to block l i + work_above (subsystem_in m block) l) 0) (count_in block)
        (λ i h. rw (uses_block i h, access_of_block m block i h l k) refl) ∙
        largest_on_top (access_to block l) (work_above (subsystem_in m block) l) (count_in block))

    pub nothing_held : (x : ℕ) → x ≡ largest_to (access_to block l) (count_in block) → x ≡ 0 → 0 ≡ resource_holding (subsystem_in m block) l
    nothing_held x e z = sym (resource_holding_by ∙ rw (← e, z) refl)

    pub something_held :
        (x above : ℕ) → x ≡ largest_to (access_to block l) (count_in block) → (x ≡ 0 → ⊥) → above ≡ work_above (subsystem_in m block) l →
        x + above ≡ resource_holding (subsystem_in m block) l
    something_held x above e p f =
        let some : 0 < x = omega arith in
        sym (resource_holding_by ∙ rw (← e, ← f, lt-ltb 0 x some) refl)

-- A turn of the sum of the works.
pub work_turn : (block : List (List ℕ)) (j sum w : ℕ) → sum ≡ sum_to (work_in block) j → w ≡ work_in block j → sum + w ≡ sum_to (work_in block) (j + 1)
work_turn block j sum w e f = rw (sum_to_suc (work_in block) j, e, f) refl

-- No access is longer than its resource's holding time.
pub access_within_holding : (u : SubsystemM) (l i : ℕ) → i < task_count u → access_of (task_of u i) l ≤ resource_holding u l
unfolding resource_holding task_holding uses
access_within_holding u l i h =
    le_trans (counted (access_of (task_of u i) l) (work_above u l)) (below_largest (task_holding u l) (task_count u) i h)
  where
    counted : (c a : ℕ) → c ≤ cond (ltb 0 c) (c + a) 0
    counted zero a = omega arith
    counted (suc c) a = rw (lt-ltb 0 (suc c) (omega arith)) (omega arith)

-- The largest over the resources.
pub holding_is : (m l : ℕ) (u : SubsystemM) → l ≡ m → largest_to (resource_holding u) l ≡ holding m u
unfolding holding
holding_is m l u e = rw e

-- The holding times of a subsystem of a grid.
pub held_of_block :
    (n m : ℕ) (grid : List (List (List ℕ))) (s : ℕ) → s < n →
    padded (resource_holding (subsystem_in m (block_in grid s))) 0 most m ≡ holdings_at (system_in n m grid) s
unfolding holdings_at system_in
held_of_block n m grid s h = ap (λ (u : SubsystemM). padded (resource_holding u) 0 most m) (sym (subsystem_of_grid n m grid s h))

pub all_held :
    (n m : ℕ) (grid : List (List (List ℕ))) (s : ℕ) (holdings : List (List ℕ)) → s ≡ n →
    holdings ≡ padded (holdings_at (system_in n m grid)) (replicate most 0) most s → HeldIn (system_in n m grid) holdings
all_held n m grid s holdings q e = e ∙ ap (padded (holdings_at (system_in n m grid)) (replicate most 0) most) (q ∙ sym (count_of_grid n m grid))
