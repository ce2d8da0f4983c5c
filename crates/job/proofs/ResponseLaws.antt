-- Laws of responses (step 11): what a search from the budget's end gives is the response with a resource, and a job's response
-- with and without resources. Assumes nothing.
use Prim.Native.Nat.{ℕ, suc, ◌+◌, ◌-◌, ◌*◌, ◌≤◌, ◌<◌}
use native.Mathlib.Nat.{add-sub_cancel}
use native.Mathlib.Omega.{arith}
use native.Mathlib.Numerals.{add-one}
use mathlib.Core.Path.{◌≡◌, refl, sym, ap, ◌∙◌}
use mathlib.Core.Logic.{⊎_elim}
use lib.ListN.{get_or}
use borrow.Author.Tests.{lt-ltb, le-ltb}
use Rattle.lists.specs.Range.{largest_to}
use Rattle.lists.proofs.Over.{le_or_lt}
use Rattle.least.specs.Demand.{total}
use Rattle.least.specs.Search.{IsLeast}
use Rattle.search.specs.After.{afterwards}
use Rattle.search.proofs.ClimbLaws.{fit_fewer}
use Rattle.least.proofs.Search.{least_is_one}
use Rattle.job.specs.View.{View, resources, held, ceiling, overrun, cost}
use Rattle.job.specs.Ends.{budget_end, job_end}
use Rattle.job.specs.Response.{first_at, response_with, job_response, job_resource}
use Rattle.job.specs.Sound.{SoundView, Counted}
use Rattle.job.specs.Computed.{BudgetOver, best_of, job_of}
use Rattle.job.specs.declared.Best.{Best}
use Rattle.job.proofs.FirstAtLaws.{first_at_within}
use Rattle.job.proofs.ActiveLaws.{active_within}
use Rattle.job.proofs.BudgetEndLaws.{budget_end_is_least}
use Rattle.job.proofs.JobEndLaws.{job_constant, job_total, constant_by_end, job_end_starts, job_end_from, job_end_within, job_comes_down, job_end_is_least}

-- The response with a resource that is held, and with one that is not.
module _ (v : View) (k l : ℕ) where
  pub counted_response : 0 < held v l → response_with v k l ≡ job_end v k l - k * v.period
  unfolding response_with
  counted_response u = rw (lt-ltb 0 (held v l) u) refl

  pub uncounted_response : held v l ≤ 0 → response_with v k l ≡ 0
  unfolding response_with
  uncounted_response u = rw (le-ltb 0 (held v l) u) refl

module _ (v : View) (sv : SoundView v) {k : ℕ} (ct : Counted v k) (l : ℕ) (within : l < resources v) where
  afterwards_is : 0 < held v l → afterwards v.periods v.costs (ceiling v l) (budget_end v k) (held v l) ≡ job_constant v k l
  afterwards_is u = omega (arith, constant_by_end v sv ct l within u)

  -- A search for the job end may go on from F(k) + X(s, l).
  pub after_end : {end : ℕ} → end ≡ budget_end v k → 0 < held v l → BudgetOver v.periods v.costs (ceiling v l) end (held v l)
  after_end q u =
      let e = afterwards_is u in
      rw q
      (record {
        from = (budget_end_is_least v sv ct).from;
        waits =
            record {
              fit = fit_fewer (ceiling v l) sv.fit (omega (arith, sv.ceiling_reaches l within u));
              few = omega (arith, sv.few, sv.ceiling_reaches l within u);
              asked = omega (arith, constant_by_end v sv ct l within u);
              stands = rw e (job_end_starts v sv ct l within u);
              small = omega (arith, job_end_from v sv ct l within u, job_end_within v sv ct l within u, active_within v sv ct.is_active);
            };
        down = rw e (job_comes_down v sv ct l within u);
      })

  -- What it gives is the response with that resource.
  pub responds : {end r : ℕ} → end ≡ budget_end v k → 0 < held v l → IsLeast (total v.periods v.costs (ceiling v l) (afterwards v.periods v.costs (ceiling v l) end (held v l))) (r + k * v.period) → r ≡ response_with v k l
  unfolding response_with
  responds {end} {r} q u i =
      let least : IsLeast (job_total v k l) (r + k * v.period) = rw (q, afterwards_is u) at i in
      rw (lt-ltb 0 (held v l) u)
      (sym (add-sub_cancel r (k * v.period)) ∙
      ap (λ (z : ℕ). z - k * v.period) (least_is_one (job_total v k l) least (job_end_is_least v sv ct l within u)))

module _ (v : View) (k : ℕ) where
  -- Without resources a job ends with its budget.
  pub response_without : overrun v ≡ 0 → budget_end v k - k * v.period ≡ job_response v k
  unfolding job_response
  response_without e = rw e refl

  pub resource_without : overrun v ≡ 0 → 0 ≡ job_resource v k
  unfolding job_resource
  resource_without e = rw e refl

  -- With resources it is the largest over these.
  pub response_with_lem : 0 < overrun v → largest_to (response_with v k) (resources v) ≡ job_response v k
  unfolding job_response
  response_with_lem u = rw (lt-ltb 0 (overrun v) u) refl

  pub resource_with : 0 < overrun v → suc (first_at (response_with v k) (resources v)) ≡ job_resource v k
  unfolding job_resource
  resource_with u = rw (lt-ltb 0 (overrun v) u) refl

-- What Q + X tells of X.
module _ (v : View) (sv : SoundView v) where
  pub no_overrun : get_or v.costs v.place 0 ≡ v.budget → overrun v ≡ 0
  unfolding cost
  no_overrun e = omega (arith, sv.own_cost)

  pub some_overrun : (get_or v.costs v.place 0 ≡ v.budget → ⊥) → 0 < overrun v
  unfolding cost
  some_overrun n =
      ⊎_elim (λ (u : overrun v ≤ 0). absurd (n (omega (arith, sv.own_cost)))) (λ (u : 0 < overrun v). u)
      (le_or_lt (overrun v) 0)

-- The job by its parts.
module _ (v : View) (k : ℕ) {end : ℕ} (e : end ≡ budget_end v k) where
  pub job_without : overrun v ≡ 0 → record { end = end; response = end - k * v.period; resource = 0 } ≡ job_of v k
  unfolding job_of
  job_without u =
      let r : end - k * v.period ≡ job_response v k = ap (λ (z : ℕ). z - k * v.period) e ∙ response_without v k u in
      λ i. record { end = e i; response = r i; resource = resource_without v k u i }

  pub job_with : 0 < overrun v → {b : Best} → b ≡ best_of (response_with v k) (resources v) → record { end = end; response = b.value; resource = b.at + 1 } ≡ job_of v k
  unfolding job_of best_of
  job_with u {b} q =
      let r : b.value ≡ job_response v k = ap (λ (a : Best). a.value) q ∙ response_with_lem v k u in
      let a : b.at + 1 ≡ job_resource v k = ap (λ (a : Best). a.at + 1) q ∙ add-one _ ∙ resource_with v k u in
      λ i. record { end = e i; response = r i; resource = a i }

-- The lowest resource is one of them.
pub best_within : (f : ℕ → ℕ) (n : ℕ) {b : Best} → b ≡ best_of f n → b.at ≤ n
unfolding best_of
best_within f n q = omega (arith, ap (λ (a : Best). a.at) q, first_at_within f n)
