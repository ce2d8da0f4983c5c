-- Laws of the table that is taken out of a grid: it is filled slot by slot, and what a file's table means gives that table
-- back. Assumes nothing.
use Prim.Native.Nat.{ℕ, ◌+◌, ◌<◌}
use mathlib.Core.Path.{◌≡◌, sym, ap, ◌∙◌}
use mathlib.Core.List.{List}
use lib.ListN.{length, drop, set}
use Rattle.lists.specs.Range.{up_to, padded}
use Rattle.lists.proofs.UpTo.{length_up_to, get_d_up_to, padded_ext, padded_turn, padded_none}
use Rattle.table.specs.Limits.{most}
use Rattle.table.specs.Zeros.{zero_task, zero_subsystem, zero_table}
use Rattle.table.specs.Meaning.{TaskM, SubsystemM, System, access_at, task_m, subsystem_m, meaning}
use Rattle.table.specs.Parts.{subsystem_count, subsystem_of, task_count, task_of, access_of}
use Rattle.table.specs.Grid.{separation_in, work_in, deadline_in, access_in, task_in}
use Rattle.table.specs.declared.Task.{Task}
use Rattle.table.specs.declared.Subsystem.{Subsystem}
use Rattle.table.specs.declared.Table.{Table}
use Rattle.stored.specs.Field.{value_of, task_length}
use Rattle.stored.specs.Decode.{decoded_access, decoded_task}
use Rattle.stored.specs.Read.{header_in, head_at, task_place, subsystem_place, task_read, subsystem_to, subsystem_from, subsystem_read, table_to, table_in}
use Rattle.reader.specs.Taken.{task_with, task_taken, subsystem_with, subsystem_taken, table_with}
use Rattle.stored.proofs.Decoding.{access_decoded}
use Rattle.stored.proofs.ReadMeaning.{tasks_read, task_read_lem, subsystems_read, subsystem_read_lem}

------------------------------------------------------------------------
-- A task, access by access

-- The task with its first l accesses.
abbrev pub task_up_to : TaskM → ℕ → Task
task_up_to t l =
    record {
      separation = t.separation;
      work = t.work;
      deadline = t.deadline;
      access = padded (access_of t) 0 most l;
    }

module _ (t : TaskM) where
  task_begins : (z : Task) (p q r : ℕ) → z ≡ zero_task → p ≡ t.separation → q ≡ t.work → r ≡ t.deadline → ◌≡◌ {A = Task} (record { separation = p; work = q; deadline = r; access = z.access }) (task_up_to t 0)
  task_begins z p q r e sep work dead =
      let none = ap (λ (y : Task). y.access) e ∙ sym (padded_none (access_of t) 0 most) in
      λ x. record { separation = sep x; work = work x; deadline = dead x; access = none x }

  pub task_goes_on : (l c : ℕ) (task : Task) → l < most → task ≡ task_up_to t l → c ≡ access_of t l → ◌≡◌ {A = Task} (record { separation = task.separation; work = task.work; deadline = task.deadline; access = set task.access l c }) (task_up_to t (l + 1))
  task_goes_on l c task h e f =
      let more = padded_turn (access_of t) 0 most l h task.access c (ap (λ (y : Task). y.access) e) f in
      λ x. record { separation = (e x).separation; work = (e x).work; deadline = (e x).deadline; access = more x }

  pub task_ends : (l : ℕ) (task : Task) → l ≡ length t.accesses → task ≡ task_up_to t l → task ≡ task_with t
  unfolding task_with
  task_ends l task e f = f ∙ ap (task_up_to t) e

-- The task on a line of a block: its times, and that it has m accesses.
module _ (m i : ℕ) (block : List (List ℕ)) where
  pub times_of_line : (z : Task) (p q r : ℕ) → z ≡ zero_task → p ≡ separation_in block i → q ≡ work_in block i → r ≡ deadline_in block i → ◌≡◌ {A = Task} (record { separation = p; work = q; deadline = r; access = z.access }) (task_up_to (task_in m block i) 0)
  unfolding task_in
  times_of_line = task_begins (task_in m block i)

  pub accesses_of_line : length (task_in m block i).accesses ≡ m
  unfolding task_in
  accesses_of_line = length_up_to (access_in block i) m

------------------------------------------------------------------------
-- A subsystem, task by task

-- The subsystem with its first i tasks.
abbrev pub subsystem_up_to : SubsystemM → ℕ → Subsystem
subsystem_up_to u i =
    record {
      period = u.period;
      budget = u.budget;
      count = task_count u;
      tasks = padded (task_taken u) zero_task most i;
    }

module _ (u : SubsystemM) where
  pub subsystem_begins : (z : Subsystem) (p q n : ℕ) → z ≡ zero_subsystem → p ≡ u.period → q ≡ u.budget → n ≡ task_count u → ◌≡◌ {A = Subsystem} (record { period = p; budget = q; count = n; tasks = z.tasks }) (subsystem_up_to u 0)
  subsystem_begins z p q n e period budget count =
      let none = ap (λ (y : Subsystem). y.tasks) e ∙ sym (padded_none (task_taken u) zero_task most) in
      λ x. record { period = period x; budget = budget x; count = count x; tasks = none x }

  pub subsystem_goes_on : (i : ℕ) (task : Task) (sub : Subsystem) → i < most → sub ≡ subsystem_up_to u i → task ≡ task_with (task_of u i) → ◌≡◌ {A = Subsystem} (record { period = sub.period; budget = sub.budget; count = sub.count; tasks = set sub.tasks i task }) (subsystem_up_to u (i + 1))
  unfolding task_taken
  subsystem_goes_on i task sub h e f =
      let more = padded_turn (task_taken u) zero_task most i h sub.tasks task (ap (λ (y : Subsystem). y.tasks) e) f in
      λ x. record { period = (e x).period; budget = (e x).budget; count = (e x).count; tasks = more x }

  pub subsystem_ends : (i : ℕ) (sub : Subsystem) → i ≡ task_count u → sub ≡ subsystem_up_to u i → sub ≡ subsystem_with u
  unfolding subsystem_with
  subsystem_ends i sub e f = f ∙ ap (subsystem_up_to u) e

------------------------------------------------------------------------
-- A table, subsystem by subsystem

-- The table with its first s subsystems.
abbrev pub table_up_to : System → ℕ → Table
table_up_to sys s =
    record {
      count = subsystem_count sys;
      resources = sys.resources;
      subsystems = padded (subsystem_taken sys) zero_subsystem most s;
    }

module _ (sys : System) where
  pub table_begins : (z : Table) (n m : ℕ) → z ≡ zero_table → n ≡ subsystem_count sys → m ≡ sys.resources → ◌≡◌ {A = Table} (record { count = n; resources = m; subsystems = z.subsystems }) (table_up_to sys 0)
  table_begins z n m e count resources =
      let none = ap (λ (y : Table). y.subsystems) e ∙ sym (padded_none (subsystem_taken sys) zero_subsystem most) in
      λ x. record { count = count x; resources = resources x; subsystems = none x }

  pub table_goes_on : (s : ℕ) (sub : Subsystem) (t : Table) → s < most → t ≡ table_up_to sys s → sub ≡ subsystem_with (subsystem_of sys s) → ◌≡◌ {A = Table} (record { count = t.count; resources = t.resources; subsystems = set t.subsystems s sub }) (table_up_to sys (s + 1))
  unfolding subsystem_taken
  table_goes_on s sub t h e f =
      let more = padded_turn (subsystem_taken sys) zero_subsystem most s h t.subsystems sub (ap (λ (y : Table). y.subsystems) e) f in
      λ x. record { count = (e x).count; resources = (e x).resources; subsystems = more x }

  pub table_ends : (s : ℕ) (t : Table) → s ≡ subsystem_count sys → t ≡ table_up_to sys s → t ≡ table_with sys
  unfolding table_with
  table_ends s t e f = f ∙ ap (table_up_to sys) e

------------------------------------------------------------------------
-- What is read has zeros in every other slot: its meaning gives it back

task_is_taken : (m : ℕ) (value : List ℕ) → task_with (task_m m (decoded_task m value)) ≡ decoded_task m value
unfolding task_with task_m decoded_task access_of
task_is_taken m value = ap (λ (l : List ℕ). record { separation = t.separation; work = t.work; deadline = t.deadline; access = l }) accesses
  where
    t : Task
    t = decoded_task m value

    accesses : padded (access_of (task_m m t)) 0 most (length (up_to (access_at t) m)) ≡ padded (decoded_access value) 0 most m
    accesses =
        ap (padded (access_of (task_m m t)) 0 most) (length_up_to (access_at t) m) ∙
        padded_ext (access_of (task_m m t)) (decoded_access value) 0 most m
        (λ l h. get_d_up_to (access_at t) m l 0 h ∙ access_decoded m value l h)

module _ (file : List ℕ) where
  module _ (m at : ℕ) where
    abbrev meant : SubsystemM
    meant = subsystem_m m (subsystem_from file m at)

    each_task_taken : (i : ℕ) → i < (head_at file at).count → task_taken meant i ≡ task_read file m at i
    unfolding task_taken task_read
    each_task_taken i h =
        ap task_with (task_read_lem file m at i h) ∙ task_is_taken m (value_of (task_length m) (drop (task_place m at i) file))

    subsystem_is_taken : subsystem_with meant ≡ subsystem_from file m at
    unfolding subsystem_with subsystem_m subsystem_from subsystem_to
    subsystem_is_taken =
        let head = head_at file at in
        let count = tasks_read file m at in
        let tasks = ap (padded (task_taken meant) zero_task most) count ∙ padded_ext (task_taken meant) (task_read file m at) zero_task most head.count each_task_taken in
        λ x. record { period = head.period; budget = head.budget; count = count x; tasks = tasks x }

  abbrev N : ℕ
  N = (header_in file).count

  abbrev M : ℕ
  M = (header_in file).resources

  each_subsystem_taken : (s : ℕ) → s < N → subsystem_taken (meaning (table_in file)) s ≡ subsystem_read file M s
  unfolding subsystem_taken subsystem_read
  each_subsystem_taken s h =
      ap subsystem_with (subsystem_read_lem file s h) ∙ subsystem_is_taken M (subsystem_place file M s)

  pub table_is_taken : table_with (meaning (table_in file)) ≡ table_in file
  unfolding table_with meaning table_in table_to
  table_is_taken =
      let taken = subsystem_taken (meaning (table_in file)) in
      let count = subsystems_read file in
      let all = ap (padded taken zero_subsystem most) count ∙ padded_ext taken (subsystem_read file M) zero_subsystem most N each_subsystem_taken in
      λ x. record { count = count x; resources = M; subsystems = all x }
