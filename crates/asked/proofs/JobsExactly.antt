-- A job's end is given exactly where the question has an answer, and is then F(k) or the job end of step 10. Assumes nothing.
use Prim.Native.Nat.{ℕ, zero, suc, ◌-◌, ◌≤◌, ◌<◌}
use native.Mathlib.Omega.{arith}
use mathlib.Core.Path.{◌≡◌, refl, sym, ◌∙◌}
use mathlib.Core.Bool.{Bool, true, false, cond}
use mathlib.Core.Logic.{⊎_elim}
use borrow.Author.Tests.{ltb-true}
use lib.Dec.{ltb}
use Rattle.lists.proofs.Over.{le_or_lt}
use Rattle.table.specs.Meaning.{System}
use Rattle.table.specs.Parts.{subsystem_count, subsystem_of}
use Rattle.holding.specs.Holding.{resource_holding}
use Rattle.rules.specs.Judged.{Judged, admitted}
use Rattle.rules.specs.Rules.{judge_of}
use Rattle.outer.specs.Parts.{count}
use Rattle.job.specs.View.{view_of, resources, held}
use Rattle.job.specs.Ends.{budget_end, job_end}
use Rattle.job.specs.JobCount.{job_count}
use Rattle.job.proofs.ViewLaws.{resources_seen, held_seen}
use Rattle.job.proofs.EndsLaws.{counted_below, counted_is_below}
use Rattle.std.specs.Prelude.{Option, Some, None, Err, Ok}
use Rattle.rows.specs.Interfaces.{interfaces_from}
use Rattle.asked.specs.Jobs.{end_with, end_of, end_in, end_for, job_end_of, HasEnd}
use Rattle.rows.proofs.SoundLaws.{count_of_interfaces, holding_shown}
use Rattle.asked.proofs.JobsLaws.{held_past, ends_with_budget, ends_with_resource, ends_in}

never : {e : ℕ} → None ≡ Some e → ⊥
never q = let z : ◌≡◌ {A = ℕ} 0 1 = cc in omega arith

-- An end that hangs on a test is there only where the test holds.
tested : (b : Bool) {x : Option ℕ} {e : ℕ} → cond b x None ≡ Some e → (b ≡ true) × (x ≡ Some e)
tested true q = (refl, q)
tested false q = absurd (never q)

-- X(s, l) as the view has it, for a subsystem and a resource of the table.
module _ (sys : System) (s : ℕ) (h : s < subsystem_count sys) where
  all_resources : resources (view_of (interfaces_from sys) s) ≡ sys.resources
  unfolding interfaces_from
  all_resources = resources_seen (interfaces_from sys) s

  held_here : (l : ℕ) → l < sys.resources → held (view_of (interfaces_from sys) s) l ≡ resource_holding (subsystem_of sys s) l
  unfolding interfaces_from
  held_here l k = held_seen (interfaces_from sys) s l k ∙ holding_shown sys s h l k

  -- What is held is held of one of the M resources.
  held_listed : (l : ℕ) → 0 < held (view_of (interfaces_from sys) s) l → l < sys.resources
  held_listed l u =
      ⊎_elim (λ (k : sys.resources ≤ l). absurd (omega (arith, held_past (view_of (interfaces_from sys) s) l (omega (arith, all_resources)))))
      (λ (k : l < sys.resources). k)
      (le_or_lt sys.resources l)

module _ (sys : System) (k : ℕ) {e : ℕ} where
  from_end : (s l : ℕ) → judge_of sys ≡ admitted → s < subsystem_count sys → k < job_count (view_of (interfaces_from sys) s) → end_with (view_of (interfaces_from sys) s) k l ≡ Some e → HasEnd sys (suc s) k l
  unfolding end_with
  from_end s zero a h j q =
      let here : suc s - 1 ≡ s = omega arith in
      record {
        admitted = a;
        subsystem = (omega arith, omega arith);
        job = rw here (counted_below (view_of (interfaces_from sys) s) j);
        resource = omega arith;
        held = λ u. absurd (omega arith);
      }
  from_end s (suc l) a h j q =
      let here : suc s - 1 ≡ s = omega arith in
      let there : suc l - 1 ≡ l = omega arith in
      let u : 0 < held (view_of (interfaces_from sys) s) l = ltb-true 0 (held (view_of (interfaces_from sys) s) l) (tested _ q).0 in
      let w : l < sys.resources = held_listed sys s h l u in
      let x : 0 < resource_holding (subsystem_of sys s) l = omega (arith, held_here sys s h l w) in
      record {
        admitted = a;
        subsystem = (omega arith, omega arith);
        job = rw here (counted_below (view_of (interfaces_from sys) s) j);
        resource = omega arith;
        held = λ _. rw (here, there) x;
      }

  from_judged : (j : Judged) (s l : ℕ) → judge_of sys ≡ j → end_for j sys s k l ≡ Some e → HasEnd sys s k l
  unfolding end_in end_of
  from_judged (Err r) s l p q = absurd (never q)
  from_judged (Ok _) zero l p q = absurd (never q)
  from_judged (Ok _) (suc s) l p q =
      let first = tested (ltb s (count (interfaces_from sys))) q in
      let second = tested (ltb k (job_count (view_of (interfaces_from sys) s))) first.1 in
      from_end s l p
      (omega (arith, ltb-true s (count (interfaces_from sys)) first.0, count_of_interfaces sys))
      (ltb-true k (job_count (view_of (interfaces_from sys) s)) second.0)
      second.1

  -- Where an end is given, the question has an answer.
  pub end_means : (s l : ℕ) → job_end_of sys s k l ≡ Some e → HasEnd sys s k l
  unfolding job_end_of
  end_means s l q = from_judged (judge_of sys) s l refl q

module _ (sys : System) (s k : ℕ) where
  -- F(k) where the budget's end is asked for.
  pub budget_end_given : HasEnd sys s k 0 → job_end_of sys s k 0 ≡ Some (budget_end (view_of (interfaces_from sys) (s - 1)) k)
  budget_end_given a =
      sym
      (ends_in sys k 0 refl a.admitted s a.subsystem.0 (omega (arith, a.subsystem.1, count_of_interfaces sys))
      (ends_with_budget (view_of (interfaces_from sys) (s - 1)) k refl (counted_is_below (view_of (interfaces_from sys) (s - 1)) a.job) refl refl))

  -- The job end of step 10 where a resource is named.
  pub job_end_given : (l : ℕ) → 1 ≤ l → HasEnd sys s k l → job_end_of sys s k l ≡ Some (job_end (view_of (interfaces_from sys) (s - 1)) k (l - 1))
  job_end_given l u a =
      let w : s - 1 < subsystem_count sys = omega (arith, a.subsystem) in
      let x = held_here sys (s - 1) w (l - 1) (omega (arith, a.resource)) in
      sym
      (ends_in sys k l refl a.admitted s a.subsystem.0 (omega (arith, a.subsystem.1, count_of_interfaces sys))
      (ends_with_resource (view_of (interfaces_from sys) (s - 1)) k refl (counted_is_below (view_of (interfaces_from sys) (s - 1)) a.job) l u (omega (arith, x, a.held u)) refl))

  some_end : (l : ℕ) → HasEnd sys s k l → (e : ℕ) × (job_end_of sys s k l ≡ Some e)
  some_end zero a = (_, budget_end_given a)
  some_end (suc l) a = (_, job_end_given (suc l) (omega arith) a)

  -- None exactly where it has none.
  pub nothing_exactly : (l : ℕ) → ((HasEnd sys s k l → ⊥) → job_end_of sys s k l ≡ None) × (job_end_of sys s k l ≡ None → HasEnd sys s k l → ⊥)
  nothing_exactly l = (λ n. unless n (job_end_of sys s k l) refl, λ q a. never (sym q ∙ (some_end l a).1))
    where
      unless : (HasEnd sys s k l → ⊥) → (r : Option ℕ) → job_end_of sys s k l ≡ r → job_end_of sys s k l ≡ None
      unless n (Some e) q = absurd (n (end_means sys k s l q))
      unless n None q = q
