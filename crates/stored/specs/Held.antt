-- What every table that a program holds has, as its type says: each time and each access is a number from 0 to
-- 4,294,967,295. The theorems on reading back what was written take it from there. Assumes nothing.
use Rattle.std.specs.Prelude.{ℕ, ◌^◌, ◌<◌}
use Rattle.table.specs.Meaning.{TaskM, SubsystemM, System}
use Rattle.table.specs.Parts.{subsystem_of, task_of, access_of}

pub record HeldTask (t : TaskM) : Type 0 where
  pub separation : t.separation < 2 ^ 32
  pub work : t.work < 2 ^ 32
  pub deadline : t.deadline < 2 ^ 32
  pub access : (l : ℕ) → access_of t l < 2 ^ 32

pub record HeldSubsystem (u : SubsystemM) : Type 0 where
  pub period : u.period < 2 ^ 32
  pub budget : u.budget < 2 ^ 32
  pub task : (i : ℕ) → HeldTask (task_of u i)

pub record Held (sys : System) : Type 0 where
  pub subsystem : (s : ℕ) → HeldSubsystem (subsystem_of sys s)
