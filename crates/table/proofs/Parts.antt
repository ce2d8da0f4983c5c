-- The parts of a table's meaning are the table's own slots, as far as the counts go. Assumes nothing.
use Prim.Native.Nat.{ℕ, ◌<◌}
use mathlib.Core.Path.{◌≡◌, ap, ◌∙◌}
use lib.ListN.{get_or}
use Rattle.lists.proofs.UpTo.{length_up_to, get_d_up_to}
use Rattle.table.specs.declared.Task.{Task}
use Rattle.table.specs.declared.Subsystem.{Subsystem}
use Rattle.table.specs.declared.Table.{Table}
use Rattle.table.specs.Meaning.{TaskM, past_tasks, past_subsystems, access_at, task_at, task_m, subsystem_at, subsystem_m, meaning}
use Rattle.table.specs.Parts.{no_task, no_subsystem, subsystem_count, subsystem_of, task_count, task_of, access_of, work_of}

pub access_of_slot : (m : ℕ) (t : Task) (l : ℕ) → l < m → access_of (task_m m t) l ≡ get_or t.access l 0
unfolding access_of task_m access_at
access_of_slot m t l h = get_d_up_to (access_at t) m l 0 h

pub count_of_tasks : (m : ℕ) (s : Subsystem) → task_count (subsystem_m m s) ≡ s.count
unfolding task_count subsystem_m
count_of_tasks m s = length_up_to (task_at m s) s.count

pub task_of_slot : (m : ℕ) (s : Subsystem) (i : ℕ) → i < s.count → task_of (subsystem_m m s) i ≡ task_m m (get_or s.tasks i past_tasks)
unfolding task_of subsystem_m task_at
task_of_slot m s i h = get_d_up_to (task_at m s) s.count i no_task h

pub work_of_slot : (m : ℕ) (s : Subsystem) (i : ℕ) → i < s.count → work_of (subsystem_m m s) i ≡ (get_or s.tasks i past_tasks).work
unfolding work_of task_m
work_of_slot m s i h = ap (λ (t : TaskM). t.work) (task_of_slot m s i h)

pub count_of_subsystems : (t : Table) → subsystem_count (meaning t) ≡ t.count
unfolding subsystem_count meaning
count_of_subsystems t = length_up_to (subsystem_at t) t.count

pub subsystem_of_slot : (t : Table) (s : ℕ) → s < t.count → subsystem_of (meaning t) s ≡ subsystem_m t.resources (get_or t.subsystems s past_subsystems)
unfolding subsystem_of meaning subsystem_at
subsystem_of_slot t s h = get_d_up_to (subsystem_at t) t.count s no_subsystem h

-- A resource's access by the task at an index, in one step.
pub access_of_slots : (m : ℕ) (s : Subsystem) (i l : ℕ) → i < s.count → l < m → access_of (task_of (subsystem_m m s) i) l ≡ get_or (get_or s.tasks i past_tasks).access l 0
access_of_slots m s i l h k =
    ap (λ (t : TaskM). access_of t l) (task_of_slot m s i h) ∙ access_of_slot m (get_or s.tasks i past_tasks) l k
