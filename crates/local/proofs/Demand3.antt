-- Demand 3, in its own words: a task passes exactly when some window of at most its deadline holds its need under every
-- way of handing out, wherever the window begins. Assumes nothing.
use Prim.Native.Nat.{ℕ, ◌≤◌, ◌<◌}
use mathlib.Core.Path.{◌≡◌}
use mathlib.Core.Bool.{true}
use mathlib.Core.Logic.{◌↔◌}
use Rattle.table.specs.declared.Table.{Table}
use Rattle.table.specs.Meaning.{SubsystemM, System, meaning}
use Rattle.table.specs.Parts.{subsystem_count, subsystem_of, task_count}
use Rattle.rules.specs.Admitted.{SoundSubsystem, SoundSystem}
use Rattle.rules.specs.Rules.{judge_of}
use Rattle.rules.specs.Judged.{admitted}
use Rattle.rules.proofs.Sound.{admitted_is_sound}
use Rattle.supply.proofs.Agreement.{always_given_is_supply}
use Rattle.local.specs.Passing.{deadline_of, need, held_within, task_passes, giving_end}
use Rattle.local.specs.SomeWindow.{SomeWindowHolds}
use Rattle.local.proofs.ReadyLaws.{budget_by_end, end_by_period}
use Rattle.local.proofs.PassingLaws.{held_here, held_means}

module _ (m : ℕ) (u : SubsystemM) (E : ℕ) (pos : 1 ≤ u.budget) (qe : u.budget ≤ E) (ep : E ≤ u.period) (i : ℕ) where
  pub task_passes_is_some_window : (task_passes m u E i ≡ true) ↔ SomeWindowHolds m u E i
  unfolding task_passes SomeWindowHolds
  task_passes_is_some_window = (to, fro)
    where
      to : held_within (need m u i) u.period u.budget E (deadline_of u i) ≡ true → SomeWindowHolds m u E i
      to e =
          let found = held_means (need m u i) u.period u.budget E (deadline_of u i) e in
          let x : ℕ = found.0 in (
            x,
            found.1,
            found.2,
            (always_given_is_supply u.period u.budget E pos qe ep x (need m u i x)).1 found.3,
          )

      fro : SomeWindowHolds m u E i → held_within (need m u i) u.period u.budget E (deadline_of u i) ≡ true
      fro w =
          held_here (need m u i) u.period u.budget E (deadline_of u i) w.0 w.1 w.2
          ((always_given_is_supply u.period u.budget E pos qe ep w.0 (need m u i w.0)).0 w.3)

-- Over an admitted system, subsystem by subsystem and task by task, with E = P − X.
pub passing_in_system :
    (sys : System) → SoundSystem sys → (s i : ℕ) → s < subsystem_count sys → i < task_count (subsystem_of sys s) →
    let m = sys.resources in
    let u = subsystem_of sys s in
    (task_passes m u (giving_end m u) i ≡ true) ↔ SomeWindowHolds m u (giving_end m u) i
passing_in_system sys sound s i h k =
    let u : SubsystemM = subsystem_of sys s in
    let ok : SoundSubsystem sys.resources u = sound.subsystem s h in
    task_passes_is_some_window sys.resources u (giving_end sys.resources u) ok.budget_least
    (budget_by_end sys.resources u ok) (end_by_period sys.resources u) i

-- Over an admitted table.
pub passing_in_table :
    (t : Table) → judge_of (meaning t) ≡ admitted → (s i : ℕ) → s < subsystem_count (meaning t) → i < task_count (subsystem_of (meaning t) s) →
    let m = t.resources in
    let u = subsystem_of (meaning t) s in
    (task_passes m u (giving_end m u) i ≡ true) ↔ SomeWindowHolds m u (giving_end m u) i
unfolding meaning
passing_in_table t admitted = passing_in_system (meaning t) (admitted_is_sound (meaning t) admitted)
