-- Laws of jobs that end when they are done: those of a subsystem that holds nothing, and of one that holds a single resource which
-- shuts no higher subsystem out. And where job 0 is done, searched for from the end of its budget. Assumes nothing.
use Prim.Native.Nat.{ℕ, suc, ◌+◌, ◌-◌, ◌*◌, ◌≤◌, ◌<◌}
use native.Mathlib.Nat.{le_antisymm, suc-mul}
use native.Mathlib.Numerals.{add-one}
use native.Mathlib.Omega.{arith}
use mathlib.Core.Path.{◌≡◌, sym, ap, ◌∙◌}
use mathlib.Core.Logic.{⊎_elim}
use mathlib.Core.List.{List}
use borrow.Author.Tests.{eq-eqb, ne_eqb}
use Rattle.lists.specs.Range.{largest_to}
use Rattle.lists.proofs.Over.{same_or_not, below_largest, largest_at_most}
use Rattle.least.specs.Search.{IsLeast}
use Rattle.least.proofs.Demand.{demand_split}
use Rattle.least.proofs.LeastLaws.{least_found}
use Rattle.table.specs.Limits.{horizon}
use Rattle.outer.specs.Blocking.{number_or}
use Rattle.job.specs.View.{View, resources, held, ceiling, overrun, cost}
use Rattle.job.specs.Ends.{ahead, budget_end, shut_out, job_end}
use Rattle.job.specs.Response.{first_at, response_with}
use Rattle.job.specs.Sound.{FirstEnd}
use Rattle.job.proofs.FirstAtLaws.{by_first}
use Rattle.job.proofs.ResponseLaws.{counted_response, uncounted_response, response_without, resource_without, response_with_lem, resource_with}
use Rattle.done.specs.Done.{done, done_total, FirstDone, EndsDone, Alone}

-- After the budget of job k, what it may hold is left to do.
pub done_more : (v : View) (k : ℕ) → done v k ≡ ahead v k + overrun v
unfolding done ahead cost
done_more v k = rw (add-one k) (omega (arith, suc-mul k (v.budget + overrun v)))

-- A range in which l alone is above 0 has its largest there.
module _ (f : ℕ → ℕ) (n l : ℕ) (within : l < n) (others : (t : ℕ) → t < n → (t ≡ l → ⊥) → f t ≡ 0) where
  pub largest_alone : largest_to f n ≡ f l
  largest_alone =
      le_antisymm
      (largest_at_most f n (f l)
      (λ t h. ⊎_elim (λ (e : t ≡ l). rw e (omega arith)) (λ (e : t ≡ l → ⊥). omega (arith, others t h e)) (same_or_not t l)))
      (below_largest f n l within)

  pub first_alone : 0 < f l → first_at f n ≡ l
  first_alone u =
      by_first f n l
      (record {
        from = omega arith;
        within = omega (arith, within);
        passes = eq-eqb _ _ (sym largest_alone);
        before =
            λ y a b.
            ne_eqb _ _ (λ (e : f y ≡ largest_to f n). absurd (omega (arith, others y (omega (arith, within, b)) (λ (q : y ≡ l). omega (arith, q, b)), e, largest_alone, u)));
      })

module _ (v : View) where
  -- Where nothing is held, a job is done with its budget.
  module _ (nothing : overrun v ≡ 0) where
    same_total : (k : ℕ) → done v k ≡ ahead v k
    same_total k = omega (arith, done_more v k, nothing)

    pub first_done_without : {ends : List ℕ} {first : ℕ} → FirstEnd v ends first → FirstDone v ends first
    first_done_without f =
        record { is_least = rw (same_total 0) f.is_least; within = f.within; with_end = f.with_end; ends_at = f.ends_at }

    pub ends_done_without : EndsDone v 0
    unfolding budget_end
    ends_done_without k end i h u =
        let e : budget_end v k ≡ end = ap (number_or 0) (least_found v.periods v.costs v.place (ahead v k) horizon (rw (same_total k) at i) h) in
        (ap (λ (x : ℕ). x - k * v.period) (sym e) ∙ response_without v k nothing, resource_without v k nothing)

  -- Where one resource is held, and shuts nobody out, a job ends when it is done.
  module _ {l : ℕ} (a : Alone v.holdings v.ceilings v.place l) where
    overrun_alone : overrun v ≡ held v l
    unfolding overrun held
    overrun_alone = largest_alone (held v) (resources v) l a.within a.others

    some_held : 0 < held v l
    unfolding held
    some_held = a.is_held

    highest : ceiling v l ≡ v.place
    unfolding ceiling
    highest = a.shuts_none

    none_shut : (k : ℕ) → shut_out v k l ≡ 0
    unfolding shut_out
    none_shut k =
        rw highest (omega (arith, demand_split v.periods v.costs v.place v.place (budget_end v k) (omega arith)))

    ends_there : (k end : ℕ) → IsLeast (done_total v k) end → end ≤ horizon → job_end v k l ≡ end
    unfolding job_end
    ends_there k end i h =
        let constant : ahead v k + held v l + shut_out v k l ≡ done v k = omega (arith, done_more v k, overrun_alone, none_shut k) in
        rw (highest, constant) (ap (number_or 0) (least_found v.periods v.costs v.place (done v k) horizon i h))

    not_held : (k t : ℕ) → t < resources v → (t ≡ l → ⊥) → response_with v k t ≡ 0
    unfolding held
    not_held k t h n = uncounted_response v k t (omega (arith, a.others t h n))

    pub ends_done_alone : EndsDone v (l + 1)
    ends_done_alone k end i h u =
        let there : response_with v k l ≡ end - k * v.period = counted_response v k l some_held ∙ ap (λ (x : ℕ). x - k * v.period) (ends_there k end i h) in
        let more : 0 < overrun v = omega (arith, overrun_alone, some_held) in (
          sym there ∙ sym (largest_alone (response_with v k) (resources v) l a.within (not_held k)) ∙ response_with_lem v k more,
          add-one l ∙ ap suc (sym (first_alone (response_with v k) (resources v) l a.within (not_held k) (omega (arith, there, u)))) ∙ resource_with v k more,
        )
