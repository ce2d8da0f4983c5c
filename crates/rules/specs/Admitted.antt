-- What holds in an admitted table, in the words of the rules: the record that the later steps rest on. Assumes nothing.
use Rattle.std.specs.Prelude.{ℕ, ◌+◌, ◌≤◌, ◌<◌}
use Rattle.table.specs.Limits.{most, largest}
use Rattle.table.specs.Meaning.{TaskM, SubsystemM, System}
use Rattle.table.specs.Parts.{subsystem_count, subsystem_of, task_count, task_of, access_of}
use Rattle.holding.specs.Holding.{holding}

pub record SoundTask (m : ℕ) (t : TaskM) : Type 0 where
  pub separation_most : t.separation ≤ largest
  pub work_least : 1 ≤ t.work
  pub work_by_deadline : t.work ≤ t.deadline
  pub deadline_by_separation : t.deadline ≤ t.separation
  pub access_by_work : (l : ℕ) → l < m → access_of t l ≤ t.work

pub record SoundSubsystem (m : ℕ) (u : SubsystemM) : Type 0 where
  pub tasks_least : 1 ≤ task_count u
  pub tasks_most : task_count u ≤ most
  pub period_most : u.period ≤ largest
  pub budget_least : 1 ≤ u.budget
  pub fits : u.budget + holding m u ≤ u.period
  pub task : (i : ℕ) → i < task_count u → SoundTask m (task_of u i)

pub record SoundSystem (sys : System) : Type 0 where
  pub subsystems_least : 1 ≤ subsystem_count sys
  pub subsystems_most : subsystem_count sys ≤ most
  pub resources_most : sys.resources ≤ most
  pub subsystem : (s : ℕ) → s < subsystem_count sys → SoundSubsystem sys.resources (subsystem_of sys s)
