-- What an admitted table is sure of: every number in range and in order, and Q + X ≤ P; that X stays within eight
-- million, so that no sum wraps before rule 5 is judged; and that nothing hangs on unused slots. Assumes nothing.
use Prim.Native.Nat.{ℕ, suc, ◌+◌, ◌-◌, ◌*◌, ◌≤◌, ◌<◌}
use native.Mathlib.Nat.{le_trans, mul-le-mul_right}
use native.Mathlib.Omega.{arith}
use mathlib.Core.Path.{◌≡◌, refl, ap}
use mathlib.Core.Bool.{Bool, true, false, cond, not, ◌||◌, true≢false}
use mathlib.Core.Option.{Option, none, some, get_or}
use borrow.Author.Tests.{ltb-false, leb-true}
use lib.Dec.{ltb}
use Rattle.lists.specs.Range.{all_to, first_such}
use Rattle.lists.proofs.First.{first_such_means}
use Rattle.lists.proofs.Over.{all_to_means, sum_to_at_most, largest_at_most}
use Rattle.table.specs.Limits.{most, largest}
use Rattle.table.specs.declared.Table.{Table}
use Rattle.table.specs.Meaning.{TaskM, SubsystemM, System, meaning, MeanTheSame}
use Rattle.table.specs.Parts.{subsystem_count, subsystem_of, task_count, task_of, access_of, work_of}
use Rattle.holding.specs.Holding.{uses, inner_ceiling, work_above, task_holding, resource_holding, holding}
use Rattle.rules.specs.declared.Rule.{Rule}
use Rattle.rules.specs.declared.Rule.TheVariants.{Counts, Range, Order, Access, Overrun}
use Rattle.rules.specs.Judged.{admitted}
use Rattle.rules.specs.Rules.{count_out, time_out, access_within, some_access_above, table_breaks, subsystem_breaks, task_breaks, place_breaks, judge_of}
use Rattle.rules.specs.Admitted.{SoundTask, SoundSubsystem, SoundSystem}
use Rattle.rules.specs.Exactly.{whole, part}
use Rattle.rules.proofs.OrderLaws.{neither, in_range}
use Rattle.rules.proofs.Exactly.{admitted_is_unbroken}

------------------------------------------------------------------------
-- From "nothing is broken" to the numbers

not_true : (b : Bool) → (b ≡ true → ⊥) → b ≡ false
not_true true h = absurd (h refl)
not_true false h = refl

time_in_range : (x : ℕ) → time_out x ≡ false → (1 ≤ x) × (x ≤ largest)
time_in_range x e =
    let n = neither (ltb x 1) (ltb largest x) e in (ltb-false x 1 n.0, ltb-false largest x n.1)

no_access_past : (m limit : ℕ) (t : TaskM) → some_access_above m limit t ≡ false → (l : ℕ) → l < m → access_of t l ≤ limit
unfolding some_access_above access_within
no_access_past m limit t e l h = leb-true (access_of t l) limit (all_to_means (access_within limit t) m (not_not (all_to (access_within limit t) m) e) l h)
  where
    not_not : (b : Bool) → not b ≡ false → b ≡ true
    not_not true q = refl
    not_not false q = absurd (true≢false q)

module _ (sys : System) (passed : judge_of sys ≡ admitted) where
  not_broken : (k : Rule) (s : ℕ) → s < subsystem_count sys → (i : ℕ) → i ≤ task_count (subsystem_of sys s) → place_breaks sys.resources k (subsystem_of sys s) i ≡ false
  not_broken k s h i l = not_true _ (λ e. admitted_is_unbroken sys passed k (s + 1) i (part k s i h l e))

  counts_pass : (count_out (subsystem_count sys) ≡ false) × (ltb most sys.resources ≡ false)
  unfolding table_breaks
  counts_pass = neither _ _ (not_true (table_breaks sys) (λ e. admitted_is_unbroken sys passed Counts 0 0 (whole e)))

  module _ (s : ℕ) (h : s < subsystem_count sys) where
    sound_task : (i : ℕ) → i < task_count (subsystem_of sys s) → SoundTask sys.resources (task_of (subsystem_of sys s) i)
    unfolding place_breaks task_breaks
    sound_task i l =
        let t = task_of (subsystem_of sys s) i in
        let range = not_broken Range s h (suc i) l in
        let order = neither (ltb t.deadline t.work) (ltb t.separation t.deadline) (not_broken Order s h (suc i) l) in
        let first = (neither (time_out t.separation || time_out t.work || time_out t.deadline) (some_access_above sys.resources largest t) range).0 in
        let second = (neither (time_out t.separation || time_out t.work) (time_out t.deadline) first).0 in
        let third = neither (time_out t.separation) (time_out t.work) second in
        record {
          separation_most = (time_in_range t.separation third.0).1;
          work_least = (time_in_range t.work third.1).0;
          work_by_deadline = ltb-false t.deadline t.work order.0;
          deadline_by_separation = ltb-false t.separation t.deadline order.1;
          access_by_work = no_access_past sys.resources t.work t (not_broken Access s h (suc i) l);
        }

    sound_subsystem : SoundSubsystem sys.resources (subsystem_of sys s)
    unfolding place_breaks subsystem_breaks
    sound_subsystem =
        let v = subsystem_of sys s in
        let counts = in_range (task_count v) (not_broken Counts s h 0 (omega arith)) in
        let range = neither (time_out v.period) (time_out v.budget) (not_broken Range s h 0 (omega arith)) in
        record {
          tasks_least = counts.0;
          tasks_most = counts.1;
          period_most = (time_in_range v.period range.0).1;
          budget_least = (time_in_range v.budget range.1).0;
          fits = ltb-false v.period (v.budget + holding sys.resources v) (not_broken Overrun s h 0 (omega arith));
          task = sound_task;
        }

  -- Everything that the rules promise holds in an admitted table.
  pub admitted_is_sound : SoundSystem sys
  admitted_is_sound =
      let n = in_range (subsystem_count sys) counts_pass.0 in
      record {
        subsystems_least = n.0;
        subsystems_most = n.1;
        resources_most = ltb-false most sys.resources counts_pass.1;
        subsystem = sound_subsystem;
      }

------------------------------------------------------------------------
-- The budget before the overrun's share

-- In an admitted table Q + X ≤ P for each subsystem, hence 1 ≤ Q ≤ E ≤ P with E = P − X.
pub budget_before_overrun :
    (sys : System) → judge_of sys ≡ admitted → (s : ℕ) → s < subsystem_count sys →
    let v = subsystem_of sys s in
    let x = holding sys.resources v in
    (v.budget + x ≤ v.period) × (1 ≤ v.budget) × (v.budget ≤ v.period - x) × (v.period - x ≤ v.period)
budget_before_overrun sys e s h =
    let v = (admitted_is_sound sys e).subsystem s h in
    (v.fits, v.budget_least, omega (arith, v.fits), omega arith)

------------------------------------------------------------------------
-- Rules 1 and 2 alone bound the holding times

-- The ceiling is at most the last task.
ceiling_at_most : (u : SubsystemM) (l : ℕ) → inner_ceiling u l ≤ task_count u - 1
unfolding inner_ceiling
ceiling_at_most u l = go (first_such (uses u l) (task_count u) 0) refl
  where
    go : (o : Option ℕ) → first_such (uses u l) (task_count u) 0 ≡ o → get_or o (task_count u - 1) ≤ task_count u - 1
    go none e = omega arith
    go (some x) e = omega (arith, (first_such_means (uses u l) (task_count u) 0 x e).within)

-- Where each of at most 8 tasks has work and accesses of at most a million, X is at most 8,000,000: no sum wraps before
-- rule 5 is judged.
module _ (m b : ℕ) (u : SubsystemM) (n : 1 ≤ task_count u) (few : task_count u ≤ most)
    (work : (i : ℕ) → i < task_count u → work_of u i ≤ b) (access : (i l : ℕ) → i < task_count u → l < m → access_of (task_of u i) l ≤ b) where
  work_above_most : (l : ℕ) → work_above u l ≤ (most - 1) * b
  unfolding work_above
  work_above_most l =
      le_trans (sum_to_at_most (work_of u) (inner_ceiling u l) b (λ i h. work i (omega (arith, ceiling_at_most u l))))
      (mul-le-mul_right b (omega (arith, ceiling_at_most u l)))

  task_holding_most : (l : ℕ) → l < m → (i : ℕ) → i < task_count u → task_holding u l i ≤ most * b
  unfolding task_holding
  task_holding_most l k i h = go (uses u l i)
    where
      go : (x : Bool) → cond x (access_of (task_of u i) l + work_above u l) 0 ≤ most * b
      go true = omega (arith, access i l h k, work_above_most l)
      go false = omega arith

  pub holding_most : holding m u ≤ most * b
  unfolding holding resource_holding
  holding_most =
      largest_at_most (resource_holding u) m (most * b)
      (λ l k. largest_at_most (task_holding u l) (task_count u) (most * b) (task_holding_most l k))

------------------------------------------------------------------------
-- Nothing hangs on unused slots

-- Two tables that mean the same get the same judgement.
pub same_judgement : (t t' : Table) → MeanTheSame t t' → judge_of (meaning t) ≡ judge_of (meaning t')
unfolding MeanTheSame
same_judgement t t' e = ap judge_of e

-- The same inner ceilings,
pub same_ceilings : (t t' : Table) → MeanTheSame t t' → (s l : ℕ) → inner_ceiling (subsystem_of (meaning t) s) l ≡ inner_ceiling (subsystem_of (meaning t') s) l
unfolding MeanTheSame
same_ceilings t t' e s l = ap (λ (sys : System). inner_ceiling (subsystem_of sys s) l) e

-- and the same holding times: X(i, l), X(s, l) and X(s).
pub same_holding_times :
    (t t' : Table) → MeanTheSame t t' → (s l i : ℕ) →
    (task_holding (subsystem_of (meaning t) s) l i ≡ task_holding (subsystem_of (meaning t') s) l i) × (resource_holding (subsystem_of (meaning t) s) l ≡ resource_holding (subsystem_of (meaning t') s) l) × (holding t.resources (subsystem_of (meaning t) s) ≡ holding t'.resources (subsystem_of (meaning t') s))
unfolding MeanTheSame meaning
same_holding_times t t' e s l i = (
  ap (λ (sys : System). task_holding (subsystem_of sys s) l i) e,
  ap (λ (sys : System). resource_holding (subsystem_of sys s) l) e,
  ap (λ (sys : System). holding sys.resources (subsystem_of sys s)) e,
)
