-- What a table that is read means, part by part. Assumes nothing.
use Prim.Native.Nat.{ℕ, ◌<◌}
use mathlib.Core.Path.{◌≡◌, ap, ◌∙◌}
use mathlib.Core.List.{List}
use Rattle.lists.proofs.UpTo.{get_d_padded}
use Rattle.table.specs.Limits.{most}
use Rattle.table.specs.Zeros.{zero_task, zero_subsystem}
use Rattle.table.specs.Meaning.{past_tasks, past_subsystems, task_m, task_at, subsystem_m, subsystem_at, meaning}
use Rattle.table.specs.Parts.{subsystem_count, subsystem_of, task_count, task_of}
use Rattle.table.proofs.Parts.{count_of_tasks, task_of_slot, count_of_subsystems, subsystem_of_slot}
use Rattle.stored.specs.Read.{header_in, head_at, subsystem_place, task_read, subsystem_to, subsystem_from, subsystem_read, table_to, table_in}

module _ (file : List ℕ) (m at : ℕ) where
  pub task_of_reading : (i : ℕ) → i < (head_at file at).count → task_at m (subsystem_from file m at) i ≡ task_m m (task_read file m at i)
  unfolding task_at subsystem_from subsystem_to
  task_of_reading i h =
      ap (task_m m) (get_d_padded (task_read file m at) zero_task past_tasks most (head_at file at).count i h)

  -- n, and the task at an index.
  pub tasks_read : task_count (subsystem_m m (subsystem_from file m at)) ≡ (head_at file at).count
  unfolding subsystem_from subsystem_to
  tasks_read = count_of_tasks m (subsystem_from file m at)

  pub task_read_lem : (i : ℕ) → i < (head_at file at).count → task_of (subsystem_m m (subsystem_from file m at)) i ≡ task_m m (task_read file m at i)
  unfolding task_at subsystem_from subsystem_to
  task_read_lem i h = task_of_slot m (subsystem_from file m at) i h ∙ task_of_reading i h

module _ (file : List ℕ) where
  pub subsystem_of_reading : (s : ℕ) → s < (header_in file).count → subsystem_at (table_in file) s ≡ subsystem_m (header_in file).resources (subsystem_from file (header_in file).resources (subsystem_place file (header_in file).resources s))
  unfolding subsystem_at table_in table_to subsystem_read
  subsystem_of_reading s h =
      ap (subsystem_m (header_in file).resources)
      (get_d_padded (subsystem_read file (header_in file).resources) zero_subsystem past_subsystems most (header_in file).count s h)

  -- N, and the subsystem at an index.
  pub subsystems_read : subsystem_count (meaning (table_in file)) ≡ (header_in file).count
  unfolding table_in table_to
  subsystems_read = count_of_subsystems (table_in file)

  pub subsystem_read_lem : (s : ℕ) → s < (header_in file).count → subsystem_of (meaning (table_in file)) s ≡ subsystem_m (header_in file).resources (subsystem_from file (header_in file).resources (subsystem_place file (header_in file).resources s))
  unfolding subsystem_at table_in table_to
  subsystem_read_lem s h = subsystem_of_slot (table_in file) s h ∙ subsystem_of_reading s h
