-- Demand 3, over tables. Assumes nothing.
use Rattle.std.specs.Prelude.{ℕ, ◌+◌, ◌-◌, ◌≤◌, ◌≡◌, true, ◌↔◌}
use Rattle.lists.specs.Range.{sum_to}
use Rattle.table.specs.declared.Table.{Table}
use Rattle.supply.specs.Ways.{Way, IsWay, given_in, AlwaysGiven}
use Rattle.local.specs.Blocking.{task_blocking}
use Rattle.local.specs.Passing.{task_passes, need, asked_by, separation_of, deadline_of, giving_end}
use Rattle.local.specs.SomeWindow.{SomeWindowHolds}
use Rattle.local.proofs.Demand3.{passing_in_table}
use Rattle.table.specs.Parts.{work_of}
use Rattle.promises.specs.Tables.{IsAdmitted, HasSubsystem, HasTask, subsystem, overrun, task, asked_in}

-- x ticks are long enough for task i of subsystem s: under every way of handing out ticks in which each period of P gives
-- exactly the budget Q, all of it before the overrun's share X at the period's end, every window of x ticks, wherever it
-- begins, holds at least the task's blocking, its own work, and the higher tasks' work in x ticks.
unfoldable pub LongEnough : Table → ℕ → ℕ → ℕ → Type 0
LongEnough t s i x =
    (w : Way) → IsWay (subsystem t s).period (subsystem t s).budget ((subsystem t s).period - overrun t s) w → (begin : ℕ) →
    task_blocking t.resources (subsystem t s) i + (task t s i).work + sum_to (asked_in t s x) i ≤ given_in w begin x

-- In an admitted table a task passes exactly when some whole number of ticks from 1 to its deadline is long enough.
pub passes_exactly_when_some_window_is_long_enough :
    (t : Table) → IsAdmitted t → (s : ℕ) → HasSubsystem t s → (i : ℕ) → HasTask t s i →
    (task_passes t.resources (subsystem t s) ((subsystem t s).period - overrun t s) i ≡ true) ↔ ((x : ℕ) × (1 ≤ x) × (x ≤ (task t s i).deadline) × LongEnough t s i x)
unfolding LongEnough SomeWindowHolds AlwaysGiven need asked_by separation_of deadline_of giving_end work_of
passes_exactly_when_some_window_is_long_enough t a s h i k = passing_in_table t a s i h k
