-- From a table's slots to its meaning: where each slot holds numbers of four bytes, so does all that the table means. And
-- what holds of each element of an array that a program holds. Assumes nothing.
use Prim.Native.Nat.{ℕ, zero, suc, ◌^◌, ◌≤◌, ◌<◌}
use native.Mathlib.Omega.{arith}
use mathlib.Core.Path.{◌≡◌, sym, subst}
use mathlib.Core.Logic.{⊎_elim}
use mathlib.Core.List.{List, [], ◌∷◌, map, map-id}
use mir.Val.{Val}
use base.Fml.{Fml}
use denote.Shadow.{shadow}
use denote.Array.{each}
use lib.ListN.{get_or, get_or-eq_default}
use Rattle.lists.specs.Range.{up_to}
use Rattle.lists.proofs.Over.{le_or_lt}
use Rattle.lists.proofs.UpTo.{length_up_to}
use Rattle.table.specs.declared.Task.{Task}
use Rattle.table.specs.declared.Subsystem.{Subsystem}
use Rattle.table.specs.declared.Table.{Table}
use Rattle.table.specs.Meaning.{past_tasks, past_subsystems, access_at, task_at, subsystem_at, task_m, subsystem_m, meaning}
use Rattle.table.specs.Parts.{no_task, no_subsystem, subsystem_of, task_of, access_of}
use Rattle.table.proofs.Parts.{access_of_slot, task_of_slot, subsystem_of_slot}
use Rattle.stored.specs.Held.{HeldTask, HeldSubsystem, Held}

------------------------------------------------------------------------
-- The slots of a table

pub record HeldTaskSlot (t : Task) : Type 0 where
  pub separation : t.separation < 2 ^ 32
  pub work : t.work < 2 ^ 32
  pub deadline : t.deadline < 2 ^ 32
  pub access : (l : ℕ) → get_or t.access l 0 < 2 ^ 32

pub record HeldSlot (u : Subsystem) : Type 0 where
  pub period : u.period < 2 ^ 32
  pub budget : u.budget < 2 ^ 32
  pub task : (i : ℕ) → HeldTaskSlot (get_or u.tasks i past_tasks)

-- What stands past the end of an array.
pub past_tasks_held : HeldTaskSlot past_tasks
past_tasks_held =
    record { separation = omega arith; work = omega arith; deadline = omega arith; access = λ l. omega arith }

pub past_subsystems_held : HeldSlot past_subsystems
past_subsystems_held = record { period = omega arith; budget = omega arith; task = λ i. past_tasks_held }

past_all : {A : Type 0} (f : ℕ → A) (n i : ℕ) (d : A) → n ≤ i → get_or (up_to f n) i d ≡ d
past_all f n i d h = get_or-eq_default (up_to f n) d {n = i} (omega (arith, length_up_to f n))

task_held : (m : ℕ) (t : Task) → HeldTaskSlot t → HeldTask (task_m m t)
unfolding task_m access_of
task_held m t h =
    record {
      separation = h.separation;
      work = h.work;
      deadline = h.deadline;
      access =
          λ l.
          ⊎_elim (λ (out : m ≤ l). none_past l out)
          (λ (within : l < m). rw (access_of_slot m t l within) (h.access l))
          (le_or_lt m l);
    }
  where
    none_past : (l : ℕ) → m ≤ l → access_of (task_m m t) l < 2 ^ 32
    none_past l out = rw (past_all (access_at t) m l 0 out) (omega arith)

no_task_held : HeldTask no_task
unfolding access_of
no_task_held = record { separation = omega arith; work = omega arith; deadline = omega arith; access = λ l. omega arith }

subsystem_held : (m : ℕ) (u : Subsystem) → HeldSlot u → HeldSubsystem (subsystem_m m u)
unfolding subsystem_m task_of
subsystem_held m u h =
    record {
      period = h.period;
      budget = h.budget;
      task =
          λ i.
          ⊎_elim (λ (out : u.count ≤ i). rw (past_all (task_at m u) u.count i no_task out) no_task_held)
          (λ (within : i < u.count). rw (task_of_slot m u i within) (task_held m (get_or u.tasks i past_tasks) (h.task i)))
          (le_or_lt u.count i);
    }

no_subsystem_held : HeldSubsystem no_subsystem
unfolding task_of
no_subsystem_held = record { period = omega arith; budget = omega arith; task = λ i. no_task_held }

-- A table whose slots hold numbers of four bytes means nothing else.
pub held_of_slots : (t : Table) → ((s : ℕ) → HeldSlot (get_or t.subsystems s past_subsystems)) → Held (meaning t)
unfolding meaning subsystem_of
held_of_slots t h =
    record {
      subsystem =
          λ s.
          ⊎_elim (λ (out : t.count ≤ s). rw (past_all (subsystem_at t) t.count s no_subsystem out) no_subsystem_held)
          (λ (within : s < t.count).
          rw (subsystem_of_slot t s within) (subsystem_held t.resources (get_or t.subsystems s past_subsystems) (h s)))
          (le_or_lt t.count s);
    }

------------------------------------------------------------------------
-- The elements of an array, by what the array's row says

pub each_element : {X Y : Type 0} (own : X → List Val → Fml) (to : Y → X) (P : Y → Type 0) → ((y : Y) (vs : List Val) → shadow (own (to y) vs) → P y) → (d : Y) → P d → (ys : List Y) (us : List Val) (i : ℕ) → shadow (each X own (map to ys) us) → P (get_or ys i d)
each_element own to P tells d pd [] us i s = pd
each_element own to P tells d pd (y ∷ ys) [] i s = absurd s
each_element own to P tells d pd (y ∷ ys) (u ∷ us) zero s = tells y (u ∷ []) s.0
each_element own to P tells d pd (y ∷ ys) (u ∷ us) (suc i) s = each_element own to P tells d pd ys us i s.1

-- The same where the row speaks of the elements themselves.
pub each_itself : {Y : Type 0} (own : Y → List Val → Fml) (P : Y → Type 0) → ((y : Y) (vs : List Val) → shadow (own y vs) → P y) → (d : Y) → P d → (ys : List Y) (us : List Val) (i : ℕ) → shadow (each Y own ys us) → P (get_or ys i d)
each_itself {Y} own P tells d pd ys us i s =
    each_element own (λ (y : Y). y) P tells d pd ys us i (subst (λ (zs : List Y). shadow (each Y own zs us)) (sym (map-id ys)) s)
