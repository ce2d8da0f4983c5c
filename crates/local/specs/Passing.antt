-- Step 5: a task's need, passing, and the first failing task, over what one subsystem means and its giving end E.
-- Tasks count from 0 here; the figure for a failing task counts from 1. Assumes nothing.
use Rattle.std.specs.Prelude.{ℕ, ◌+◌, ◌-◌, ◌*◌, Bool, true, false, not, leb}
use Rattle.std.proofs.Math.Option.{Option, none, some}
use Rattle.lists.specs.Range.{sum_to, first_such}
use Rattle.least.specs.Up.{up}
use Rattle.table.specs.Meaning.{SubsystemM}
use Rattle.table.specs.Parts.{task_count, task_of, work_of}
use Rattle.holding.specs.Holding.{holding}
use Rattle.supply.specs.Supply.{supply}
use Rattle.local.specs.Blocking.{task_blocking}

-- The separation T and the deadline D of the task at an index.
unfoldable pub separation_of : SubsystemM → ℕ → ℕ
separation_of u i = (task_of u i).separation

unfoldable pub deadline_of : SubsystemM → ℕ → ℕ
deadline_of u i = (task_of u i).deadline

-- What task j asks for in x ticks: Up(x, T(j)) × C(j).
unfoldable pub asked_by : SubsystemM → (x j : ℕ) → ℕ
asked_by u x j = up x (separation_of u j) * work_of u j

-- Step 5's left side, task i's need in x ticks: b(i) + C(i) + the sum over j < i of Up(x, T(j)) × C(j).
unfoldable pub need : ℕ → SubsystemM → (i x : ℕ) → ℕ
need m u i x = task_blocking m u i + work_of u i + sum_to (asked_by u x) i

-- Whether a window of x ticks is sure to hold a need, which is a function of x; whether that is so for some x in 1 .. D.
unfoldable pub held_at : (ℕ → ℕ) → (P Q E x : ℕ) → Bool
held_at needed P Q E x = leb (needed x) (supply P Q E x)

abbrev pub is_found : Option ℕ → Bool
is_found (some x) = true
is_found none = false

unfoldable pub held_within : (ℕ → ℕ) → (P Q E D : ℕ) → Bool
held_within needed P Q E D = is_found (first_such (held_at needed P Q E) D 1)

-- Step 5. Whether task i passes.
unfoldable pub task_passes : ℕ → SubsystemM → (E i : ℕ) → Bool
task_passes m u E i = held_within (need m u i) u.period u.budget E (deadline_of u i)

unfoldable pub task_fails : ℕ → SubsystemM → (E i : ℕ) → Bool
task_fails m u E i = not (task_passes m u E i)

-- The figure for the first of a range: its index from 1, or 0 where there is none.
abbrev pub figure : Option ℕ → ℕ
figure (some i) = i + 1
figure none = 0

-- The first failing task of a subsystem, 0 if none.
unfoldable pub first_failing : ℕ → SubsystemM → ℕ → ℕ
first_failing m u E = figure (first_such (task_fails m u E) (task_count u) 0)

-- The giving end: the period less the overrun's share, E = P − X.
unfoldable pub giving_end : ℕ → SubsystemM → ℕ
giving_end m u = u.period - holding m u
