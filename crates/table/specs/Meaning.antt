-- What a table means: what is left of it when unused slots are dropped. Every figure, verdict and byte is defined over
-- the meaning, so none of them can depend on an unused slot. Indices count from 0 here; document 01 counts from 1.
-- Assumes nothing.
use Rattle.std.specs.Prelude.{ℕ, ◌≡◌, List, [], get_or}
use Rattle.lists.specs.Range.{up_to}
use Rattle.table.specs.declared.Task.{Task}
use Rattle.table.specs.declared.Subsystem.{Subsystem}
use Rattle.table.specs.declared.Table.{Table}

-- A task: separation T, work C, deadline D, and its access to each of the M resources.
pub record TaskM : Type 0 where
  pub separation : ℕ
  pub work : ℕ
  pub deadline : ℕ
  pub accesses : List ℕ

-- A subsystem: period P, budget Q, and its n tasks.
pub record SubsystemM : Type 0 where
  pub period : ℕ
  pub budget : ℕ
  pub tasks : List TaskM

-- A system: M, and its N subsystems.
pub record System : Type 0 where
  pub resources : ℕ
  pub subsystems : List SubsystemM

-- What stands past the end of an array. A count within its limit never reaches there.
abbrev pub past_tasks : Task
past_tasks = record { separation = 0; work = 0; deadline = 0; access = [] }

abbrev pub past_subsystems : Subsystem
past_subsystems = record { period = 0; budget = 0; count = 0; tasks = [] }

-- The task with its first m accesses.
unfoldable pub access_at : Task → ℕ → ℕ
access_at t l = get_or t.access l 0

unfoldable pub task_m : ℕ → Task → TaskM
task_m m t =
    record {
      separation = t.separation;
      work = t.work;
      deadline = t.deadline;
      accesses = up_to (access_at t) m;
    }

-- The subsystem with its tasks in use.
unfoldable pub task_at : ℕ → Subsystem → ℕ → TaskM
task_at m s i = task_m m (get_or s.tasks i past_tasks)

unfoldable pub subsystem_m : ℕ → Subsystem → SubsystemM
subsystem_m m s = record { period = s.period; budget = s.budget; tasks = up_to (task_at m s) s.count }

-- The table with its subsystems in use.
unfoldable pub subsystem_at : Table → ℕ → SubsystemM
subsystem_at t s = subsystem_m t.resources (get_or t.subsystems s past_subsystems)

unfoldable pub meaning : Table → System
meaning t = record { resources = t.resources; subsystems = up_to (subsystem_at t) t.count }

-- Two tables mean the same when counts and all slots within them are equal: when nothing but unused slots differs.
unfoldable pub MeanTheSame : Table → Table → Type 0
MeanTheSame t u = meaning t ≡ meaning u
