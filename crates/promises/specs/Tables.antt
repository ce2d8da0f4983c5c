-- The words in which the demands speak of tables. Subsystems, tasks and resources count from 0 here. Assumes nothing.
use Rattle.std.specs.Prelude.{ℕ, ◌*◌, ◌<◌, ◌≡◌}
use Rattle.least.specs.Up.{up}
use Rattle.table.specs.declared.Table.{Table}
use Rattle.table.specs.Meaning.{SubsystemM, TaskM, meaning}
use Rattle.table.specs.Parts.{subsystem_count, subsystem_of, task_count, task_of}
use Rattle.holding.specs.Holding.{holding}
use Rattle.rules.specs.Judged.{admitted}
use Rattle.rules.specs.Rules.{judge_of}

-- A table that no rule refuses.
abbrev pub IsAdmitted : Table → Type 0
IsAdmitted t = judge_of (meaning t) ≡ admitted

-- Subsystem s of a table, and task i of a subsystem, are there.
abbrev pub HasSubsystem : Table → ℕ → Type 0
HasSubsystem t s = s < subsystem_count (meaning t)

abbrev pub HasTask : Table → ℕ → ℕ → Type 0
HasTask t s i = i < task_count (subsystem_of (meaning t) s)

-- Subsystem s, its holding time X, and task i of it.
abbrev pub subsystem : Table → ℕ → SubsystemM
subsystem t s = subsystem_of (meaning t) s

abbrev pub overrun : Table → ℕ → ℕ
overrun t s = holding t.resources (subsystem t s)

abbrev pub task : Table → ℕ → ℕ → TaskM
task t s i = task_of (subsystem t s) i

-- What task j of subsystem s asks for in x ticks: Up(x, T(j)) × C(j).
abbrev pub asked_in : Table → ℕ → ℕ → ℕ → ℕ
asked_in t s x j = up x (task t s j).separation * (task t s j).work
