-- The outer ceiling speaks of accesses, and the global steps see holding times: a subsystem holds a resource exactly when one
-- of its tasks accesses it. Assumes nothing.
use Rattle.std.specs.Prelude.{ℕ, ◌+◌, ◌<◌, ◌≡◌, refl, Bool, true, false, cond, ◌↔◌, ◌⊎◌, ltb}
use Rattle.std.proofs.Common.{arith, inl, inr, ltb-true, lt-ltb}
use Rattle.lists.specs.Range.{largest_to}
use Rattle.lists.proofs.Over.{below_largest, largest_reached}
use Rattle.table.specs.Meaning.{SubsystemM}
use Rattle.table.specs.Parts.{task_count, task_of, access_of}
use Rattle.holding.specs.Holding.{uses, work_above, task_holding, resource_holding}

-- A task with a holding time accesses the resource.
holds_what_it_accesses : (u : SubsystemM) (l i : ℕ) → 0 < task_holding u l i → 0 < access_of (task_of u i) l
unfolding task_holding uses
holds_what_it_accesses u l i h = go (ltb 0 (access_of (task_of u i) l)) refl h
  where
    go : (b : Bool) → ltb 0 (access_of (task_of u i) l) ≡ b → 0 < cond b (access_of (task_of u i) l + work_above u l) 0 → 0 < access_of (task_of u i) l
    go true e q = ltb-true 0 (access_of (task_of u i) l) e
    go false e q = absurd (omega arith)

-- A task that accesses the resource has a holding time of at least the access.
accesses_are_held : (u : SubsystemM) (l i : ℕ) → 0 < access_of (task_of u i) l → 0 < task_holding u l i
unfolding task_holding uses
accesses_are_held u l i h = rw (lt-ltb 0 (access_of (task_of u i) l) h) (omega arith)

-- X(s, l) is above 0 exactly when some task of s accesses l.
pub held_exactly_when_accessed :
    (u : SubsystemM) (l : ℕ) → (0 < resource_holding u l) ↔ ((i : ℕ) × (i < task_count u) × (0 < access_of (task_of u i) l))
unfolding resource_holding
held_exactly_when_accessed u l = (λ h. to h (largest_reached (task_holding u l) (task_count u)), fro)
  where
    to : 0 < largest_to (task_holding u l) (task_count u) → (largest_to (task_holding u l) (task_count u) ≡ 0) ⊎ ((i : ℕ) × (i < task_count u) × (task_holding u l i ≡ largest_to (task_holding u l) (task_count u))) → (i : ℕ) × (i < task_count u) × (0 < access_of (task_of u i) l)
    to h (inl z) = absurd (omega arith)
    to h (inr r) = (r.0, r.1, holds_what_it_accesses u l r.0 (omega (arith, r.2)))

    fro : ((i : ℕ) × (i < task_count u) × (0 < access_of (task_of u i) l)) → 0 < largest_to (task_holding u l) (task_count u)
    fro r = omega (arith, below_largest (task_holding u l) (task_count u) r.0 r.1, accesses_are_held u l r.0 r.2)
