-- An array whose every element is zero is the array of zeros; and what `Default` gives is the table, the subsystem or the task of zeros.
-- Assumes nothing.
use Prim.Native.Nat.{ℕ, zero, suc, ◌<◌}
use native.Mathlib.Omega.{arith}
use mathlib.Core.Path.{◌≡◌, refl, ap₂}
use mathlib.Core.List.{List, [], ◌∷◌}
use lib.ListN.{length}
use Rattle.std.specs.Prelude.{replicate, slice_index_or}
use Rattle.std.specs.Array.{AllOfLen}
use Rattle.table.specs.declared.Task.{Task}
use Rattle.table.specs.declared.Subsystem.{Subsystem}
use Rattle.table.specs.declared.Table.{Table}
use Rattle.table.specs.Limits.{most}
use Rattle.table.specs.Zeros.{zero_task, zero_subsystem, zero_table}

all_same : {A : Type 0} (P : A → Type 0) (z : A) → ((x : A) → P x → x ≡ z) → (xs : List A) (n : ℕ) → length xs ≡ n → ((i : ℕ) (d : A) → i < n → P (slice_index_or xs i d)) → xs ≡ replicate n z
all_same P z only [] zero long at = refl
all_same P z only [] (suc n) long at = absurd (omega (arith, long))
all_same P z only (x ∷ xs) zero long at = absurd (omega (arith, long))
all_same {A = A} P z only (x ∷ xs) (suc n) long at =
    ap₂ (λ (y : A) (ys : List A). y ∷ ys) (only x (at 0 x (omega arith))) (all_same P z only xs n (omega (arith, long)) (λ i d h. at (suc i) d (omega (arith, h))))

pub all_zero : {A : Type 0} (P : A → Type 0) (z : A) → ((x : A) → P x → x ≡ z) → {xs : List A} {n : ℕ} → AllOfLen P xs n → xs ≡ replicate n z
all_zero P z only {xs} {n} h = all_same P z only xs n h.long h.at

task_of : (separation work deadline : ℕ) (access : List ℕ) → separation ≡ 0 → work ≡ 0 → deadline ≡ 0 → access ≡ replicate most 0 → ◌≡◌ {A = Task} (record { separation = separation; work = work; deadline = deadline; access = access }) zero_task
task_of separation work deadline access e f g h = rw (e, f, g, h) refl

subsystem_of : (period budget count : ℕ) (tasks : List Task) → period ≡ 0 → budget ≡ 0 → count ≡ 0 → tasks ≡ replicate most zero_task → ◌≡◌ {A = Subsystem} (record { period = period; budget = budget; count = count; tasks = tasks }) zero_subsystem
subsystem_of period budget count tasks e f g h = rw (e, f, g, h) refl

-- Each field is 0, and so is each element of the array.
pub task_zero : (t : Task) → (t.separation ≡ 0) × (t.work ≡ 0) × (t.deadline ≡ 0) × (t.access ≡ replicate most 0) → t ≡ zero_task
task_zero t h = task_of t.separation t.work t.deadline t.access h.0 h.1 h.2 h.3

pub subsystem_zero : (u : Subsystem) → (u.period ≡ 0) × (u.budget ≡ 0) × (u.count ≡ 0) × (u.tasks ≡ replicate most zero_task) → u ≡ zero_subsystem
subsystem_zero u h = subsystem_of u.period u.budget u.count u.tasks h.0 h.1 h.2 h.3

table_of : (count resources : ℕ) (subsystems : List Subsystem) → count ≡ 0 → resources ≡ 0 → subsystems ≡ replicate most zero_subsystem → ◌≡◌ {A = Table} (record { count = count; resources = resources; subsystems = subsystems }) zero_table
table_of count resources subsystems e f g = rw (e, f, g) refl

pub table_zero : (t : Table) → (t.count ≡ 0) × (t.resources ≡ 0) × (t.subsystems ≡ replicate most zero_subsystem) → t ≡ zero_table
table_zero t h = table_of t.count t.resources t.subsystems h.0 h.1 h.2
