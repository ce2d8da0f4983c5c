-- Laws of task blocking: which accesses count, and that a resource raises the blockings of the tasks from its inner ceiling on.
-- Assumes nothing.
use Prim.Native.Nat.{ℕ, ◌+◌, ◌≤◌, ◌<◌, max}
use native.Mathlib.Omega.{arith}
use mathlib.Core.Path.{◌≡◌, refl, sym, ap, ap₂, ◌∙◌}
use mathlib.Core.Bool.{Bool, true, false, cond, ◌&&◌}
use mathlib.Core.List.{List}
use borrow.Author.Tests.{ltb-false}
use lib.Dec.{ltb, leb}
use lib.ListN.{get_or, replicate}
use Rattle.lists.specs.Range.{largest_to, behind, padded}
use Rattle.lists.proofs.Over.{largest_to_zero, largest_to_suc, largest_to_ext, largest_at_most}
use Rattle.lists.proofs.UpTo.{get_d_padded, padded_ext}
use Rattle.lists.proofs.Put.{all_padding}
use Rattle.lists.proofs.Raised.{largest_where, behind_last}
use Rattle.table.specs.Limits.{most}
use Rattle.table.specs.Meaning.{SubsystemM}
use Rattle.table.specs.Parts.{task_count, task_of, access_of}
use Rattle.table.specs.Grid.{count_in, access_in, subsystem_in}
use Rattle.table.proofs.GridLaws.{count_of_block, access_of_block}
use Rattle.holding.specs.Holding.{uses, inner_ceiling, resource_holding}
use Rattle.holding.proofs.HoldingLaws.{access_within_holding}
use Rattle.local.specs.Blocking.{can_block, blocking_access, resource_blocking, task_blocking}

-- How long each task accesses resource l.
abbrev pub accesses_to : SubsystemM → ℕ → ℕ → ℕ
accesses_to u l j = access_of (task_of u j) l

-- An access counts by its own length where it is of a task below i and the ceiling reaches i; one of 0 adds nothing.
access_counts : (a b : Bool) (c : ℕ) → cond (a && ltb 0 c && b) c 0 ≡ cond b (cond a c 0) 0
access_counts true b c = go b (ltb 0 c) refl
  where
    go : (b d : Bool) → ltb 0 c ≡ d → cond (d && b) c 0 ≡ cond b c 0
    go b true e = refl
    go true false e = let none : c ≤ 0 = ltb-false _ _ e in omega arith
    go false false e = refl
access_counts false true c = refl
access_counts false false c = refl

module _ (u : SubsystemM) (i l : ℕ) where
  -- With resource l: the longest access of a task behind i, where the ceiling reaches i.
  pub blocking_behind : resource_blocking u i l ≡ cond (leb (inner_ceiling u l) i) (behind (accesses_to u l) (task_count u) i) 0
  unfolding resource_blocking blocking_access can_block uses behind
  blocking_behind =
      largest_to_ext (blocking_access u i l) (λ j. cond (leb (inner_ceiling u l) i) (cond (ltb i j) (access_of (task_of u j) l) 0) 0) (task_count u)
      (λ j h. access_counts (ltb i j) (leb (inner_ceiling u l) i) (access_of (task_of u j) l)) ∙
      sym (largest_where (leb (inner_ceiling u l) i) (λ j. cond (ltb i j) (access_of (task_of u j) l) 0) (task_count u))

  -- A resource that nobody holds blocks nobody.
  unheld_blocks_not : resource_holding u l ≡ 0 → resource_blocking u i l ≡ 0
  unfolding resource_blocking blocking_access
  unheld_blocks_not e =
      omega (arith, largest_at_most (blocking_access u i l) (task_count u) 0 (λ j h. at_most (can_block u i l j) (omega (arith, access_within_holding u l j h))))
    where
      at_most : (b : Bool) {c : ℕ} → c ≤ 0 → cond b c 0 ≤ 0
      at_most true k = k
      at_most false k = omega arith

-- One resource more.
blocking_with : (u : SubsystemM) (l i : ℕ) → task_blocking (l + 1) u i ≡ max (task_blocking l u i) (resource_blocking u i l)
unfolding task_blocking
blocking_with u l i = largest_to_suc (resource_blocking u i) l

-- With a resource whose ceiling is c.
pub blocking_more :
    (m : ℕ) (block : List (List ℕ)) (l c : ℕ) → l < m → c ≡ inner_ceiling (subsystem_in m block) l → (i : ℕ) → i < count_in block →
    task_blocking (l + 1) (subsystem_in m block) i ≡ max (task_blocking l (subsystem_in m block) i) (cond (leb c i) (behind (λ j. access_in block j l) (count_in block) i) 0)
unfolding behind
blocking_more m block l c listed e i h =
    let u = subsystem_in m block in
    blocking_with u l i ∙ ap (max (task_blocking l u i)) (blocking_behind u i l) ∙
    ap (max (task_blocking l u i)) (ap₂ (λ (x y : ℕ). cond (leb x i) y 0) (sym e) accesses)
  where
    accesses : largest_to (λ j. cond (ltb i j) (access_of (task_of (subsystem_in m block) j) l) 0) (task_count (subsystem_in m block)) ≡ largest_to (λ j. cond (ltb i j) (access_in block j l) 0) (count_in block)
    accesses =
        ap (largest_to (λ j. cond (ltb i j) (access_of (task_of (subsystem_in m block) j) l) 0)) (count_of_block m block) ∙
        largest_to_ext _ _ (count_in block) (λ j k. ap (λ (x : ℕ). cond (ltb i j) x 0) (access_of_block m block j k l listed))

-- A resource that nobody holds raises nothing.
pub raised_by_none :
    (u : SubsystemM) (m l n : ℕ) (held blockings : List ℕ) → l < m → held ≡ padded (resource_holding u) 0 most m → get_or held l 0 ≡ 0 →
    blockings ≡ padded (task_blocking l u) 0 most n → blockings ≡ padded (task_blocking (l + 1) u) 0 most n
raised_by_none u m l n held blockings h e z b =
    let unheld : resource_holding u l ≡ 0 = sym (get_d_padded (resource_holding u) 0 0 most m l h) ∙ ap (λ (xs : List ℕ). get_or xs l 0) (sym e) ∙ z in
    b ∙ padded_ext (task_blocking l u) (task_blocking (l + 1) u) 0 most n (λ i k. omega (arith, blocking_with u l i, unheld_blocks_not u i l unheld))

-- No resource, no blocking.
pub blockings_begin : (u : SubsystemM) (n : ℕ) → n ≤ most → replicate most 0 ≡ padded (task_blocking 0 u) 0 most n
unfolding task_blocking
blockings_begin u n h = all_padding (task_blocking 0 u) 0 most n h (λ i k. largest_to_zero (resource_blocking u i))

-- One task alone waits for none.
pub blockings_of_one : (m : ℕ) (block : List (List ℕ)) {n : ℕ} → n ≡ count_in block → n ≡ 1 → replicate most 0 ≡ padded (task_blocking m (subsystem_in m block)) 0 most (count_in block)
unfolding task_blocking
blockings_of_one m block e one =
    all_padding (task_blocking m (subsystem_in m block)) 0 most (count_in block) (omega arith)
    (λ i k. omega (arith, largest_at_most (resource_blocking (subsystem_in m block) i) m 0 (λ l h. omega (arith, none l i (omega arith)))))
  where
    none : (l i : ℕ) → count_in block ≤ i + 1 → resource_blocking (subsystem_in m block) i l ≡ 0
    none l i k =
        blocking_behind (subsystem_in m block) i l ∙
        go (leb (inner_ceiling (subsystem_in m block) l) i) (behind_last (accesses_to (subsystem_in m block) l) (task_count (subsystem_in m block)) i (omega (arith, count_of_block m block)))
      where
        go : (b : Bool) {c : ℕ} → c ≡ 0 → cond b c 0 ≡ 0
        go true q = q
        go false q = refl

-- The blocking that stands at a task's place.
pub blocking_read : (u : SubsystemM) (m n i : ℕ) (blockings : List ℕ) → blockings ≡ padded (task_blocking m u) 0 most n → i < n → get_or blockings i 0 ≡ task_blocking m u i
blocking_read u m n i blockings e h = rw e (get_d_padded (task_blocking m u) 0 0 most n i h)
