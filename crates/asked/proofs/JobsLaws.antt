-- Laws of the end of one job: what each test of the code settles. Assumes nothing.
use Prim.Native.Nat.{ℕ, zero, suc, ◌-◌, ◌≤◌, ◌<◌}
use native.Mathlib.Omega.{arith}
use mathlib.Core.Path.{◌≡◌, sym, ap, ◌∙◌}
use borrow.Author.Tests.{lt-ltb, le-ltb}
use lib.ListN.{get_or-eq_default}
use Rattle.table.specs.Meaning.{System}
use Rattle.rules.specs.Judged.{Judged, admitted}
use Rattle.rules.specs.declared.Broken.{Broken}
use Rattle.rules.specs.Rules.{judge_of}
use Rattle.outer.specs.Parts.{count}
use Rattle.job.specs.View.{View, view_of, resources, held}
use Rattle.job.specs.Ends.{budget_end, job_end}
use Rattle.job.specs.JobCount.{job_count}
use Rattle.std.specs.Prelude.{Option, Some, None, Err, Ok}
use Rattle.rows.specs.Interfaces.{interfaces_from}
use Rattle.asked.specs.Jobs.{end_with, end_of, end_in, end_for, job_end_of}

-- Past the last resource nothing is held.
pub held_past : (v : View) (l : ℕ) → resources v ≤ l → held v l ≡ 0
unfolding held
held_past v l h = get_or-eq_default v.holdings 0 h

module _ (v : View) (k : ℕ) where
  pub no_job : (l : ℕ) {n : ℕ} → n ≡ job_count v → n ≤ k → None ≡ end_of v k l
  unfolding end_of
  no_job l e h = rw (le-ltb k (job_count v) (omega arith))

  module _ {n : ℕ} (e : n ≡ job_count v) (h : k < n) where
    job : k < job_count v
    job = omega arith

    pub ends_with_budget : {l z : ℕ} → l ≡ 0 → z ≡ budget_end v k → Some z ≡ end_of v k l
    unfolding end_of end_with
    ends_with_budget q b = rw (q, lt-ltb k (job_count v) job) (ap Some b)

    pub never_held : (l : ℕ) → 1 ≤ l → held v (l - 1) ≡ 0 → None ≡ end_of v k l
    unfolding end_of end_with
    never_held zero u q = absurd (omega arith)
    never_held (suc l) u q =
        let here : suc l - 1 ≡ l = omega arith in
        rw (lt-ltb k (job_count v) job, le-ltb 0 (held v l) (omega (arith, q, ap (held v) here)))

    pub ends_with_resource : (l : ℕ) {z : ℕ} → 1 ≤ l → 0 < held v (l - 1) → z ≡ job_end v k (l - 1) → Some z ≡ end_of v k l
    unfolding end_of end_with
    ends_with_resource zero u q b = absurd (omega arith)
    ends_with_resource (suc l) u q b =
        let here : suc l - 1 ≡ l = omega arith in
        rw (lt-ltb k (job_count v) job, lt-ltb 0 (held v l) (omega (arith, q, ap (held v) here)))
        (ap Some (b ∙ ap (job_end v k) here))

-- From the judgement.
module _ (sys : System) (k l : ℕ) where
  end_for_lem : {j : Judged} (s : ℕ) → j ≡ judge_of sys → end_for j sys s k l ≡ job_end_of sys s k l
  unfolding job_end_of
  end_for_lem s e = ap (λ (i : Judged). end_for i sys s k l) e

  pub refused_ends : (s : ℕ) {j : Judged} {broken : Broken} → j ≡ judge_of sys → j ≡ Err broken → None ≡ job_end_of sys s k l
  refused_ends s e r = ap (λ (i : Judged). end_for i sys s k l) (sym r) ∙ end_for_lem s e

  admitted_ends : (s : ℕ) {j : Judged} → j ≡ judge_of sys → j ≡ admitted → end_in (interfaces_from sys) s k l ≡ job_end_of sys s k l
  admitted_ends s e a = ap (λ (i : Judged). end_for i sys s k l) (sym a) ∙ end_for_lem s e

  module _ {j : Judged} (e : j ≡ judge_of sys) (a : j ≡ admitted) where
    pub subsystem_0 : (s : ℕ) → s ≡ 0 → None ≡ job_end_of sys s k l
    unfolding end_in
    subsystem_0 s q = ap (λ (r : ℕ). end_in (interfaces_from sys) r k l) (sym q) ∙ admitted_ends s e a

    pub past_subsystems_lem : (s : ℕ) → count (interfaces_from sys) < s → None ≡ job_end_of sys s k l
    unfolding end_in
    past_subsystems_lem zero h = absurd (omega arith)
    past_subsystems_lem (suc s) h =
        (rw (le-ltb s (count (interfaces_from sys)) (omega arith))) ∙ admitted_ends (suc s) e a

    pub ends_in : (s : ℕ) {r : Option ℕ} → 1 ≤ s → s ≤ count (interfaces_from sys) → r ≡ end_of (view_of (interfaces_from sys) (s - 1)) k l → r ≡ job_end_of sys s k l
    unfolding end_in
    ends_in zero u h q = absurd (omega arith)
    ends_in (suc s) u h q =
        let here : suc s - 1 ≡ s = omega arith in
        let inside : end_of (view_of (interfaces_from sys) s) k l ≡ end_in (interfaces_from sys) (suc s) k l = rw (lt-ltb s (count (interfaces_from sys)) (omega arith)) in
        q ∙ ap (λ (r : ℕ). end_of (view_of (interfaces_from sys) r) k l) here ∙ inside ∙ admitted_ends (suc s) e a
