-- Laws of the jobs whose end need not be looked for: a job ends Q before the next one's budget does, or earlier, and within X of its
-- own where no higher subsystem comes between or has a period that begins meanwhile. Where that leaves no room for a larger response than the worst so far, the worst so
-- far stays; and where no later job has room, it is the worst of all. Assumes nothing.
use Prim.Native.Nat.{ℕ, zero, suc, ◌+◌, ◌-◌, ◌*◌, ◌≤◌, ◌<◌}
use native.Mathlib.Nat.{add-zero, add_assoc, add-mul, mul-add, suc-mul, mul-le-mul_right}
use native.Mathlib.Omega.{arith}
use native.Mathlib.Numerals.{add-one}
use mathlib.Core.Path.{◌≡◌, sym, ap, ◌∙◌}
use mathlib.Core.Bool.{Bool, true, cond}
use mathlib.Core.Logic.{◌⊎◌, inl, inr, ⊎_elim}
use mathlib.Core.List.{List}
use lib.ListN.{get_or}
use Rattle.least.specs.Up.{up}
use borrow.Author.Tests.{lt-ltb}
use lib.Dec.{ltb}
use Rattle.lists.specs.Range.{largest_to}
use Rattle.lists.proofs.Over.{le_or_lt, largest_to_zero, below_largest, largest_at_most, largest_reached}
use Rattle.job.specs.View.{View, resources, held, ceiling, overrun, cost}
use Rattle.job.specs.Ends.{budget_end, job_end}
use Rattle.job.specs.Response.{response_with, job_response, response}
use Rattle.job.specs.Sound.{SoundView, Counted}
use Rattle.responses.specs.Known.{Jobs, Ended, EndedBy, Plain}
use Rattle.job.specs.Computed.{job_of, worst_of}
use Rattle.job.specs.declared.Job.{Job}
use Rattle.job.specs.declared.Worst.{Worst}
use Rattle.job.proofs.ActiveLaws.{held_at_most, budget_at_most}
use Rattle.job.proofs.BudgetEndLaws.{budget_end_next, budget_end_within, last_leaves, released_before_end}
use Rattle.job.proofs.JobEndLaws.{job_end_within, job_end_unasked, job_end_before_next, released_before_job_end}
use Rattle.job.proofs.ResponseLaws.{counted_response, uncounted_response, response_without, response_with_lem}
use Rattle.responses.proofs.JobsLaws.{some_jobs}
use Rattle.job.proofs.BestLaws.{worst_first, worst_step, worst_stays}

module _ (v : View) (sv : SoundView v) {k : ℕ} (ct : Counted v k) where
  -- A job's response is above 0.
  pub response_above_zero : 0 < job_response v k
  response_above_zero = ⊎_elim without with_some (le_or_lt (overrun v) 0)
    where
      without : overrun v ≤ 0 → 0 < job_response v k
      without h = omega (arith, response_without v k (omega arith), released_before_end v sv ct)

      with_some : 0 < overrun v → 0 < job_response v k
      with_some h = ⊎_elim (λ (e : largest_to (held v) (resources v) ≡ 0). absurd (none e)) found (largest_reached (held v) (resources v))
        where
          none : largest_to (held v) (resources v) ≡ 0 → ⊥
          none e = unfold overrun in omega (arith, h, e)

          found : (i : ℕ) × (i < resources v) × (held v i ≡ largest_to (held v) (resources v)) → 0 < job_response v k
          found (i, within, e) =
              let counts : 0 < held v i = unfold overrun in omega (arith, h, e) in
              omega (
                arith,
                response_with_lem v k h,
                below_largest (response_with v k) (resources v) i within,
                counted_response v k i counts,
                released_before_job_end v sv ct i within counts,
              )

  -- The job ends within the active period.
  pub response_within : job_response v k + k * v.period ≤ ct.active
  response_within = ⊎_elim without with_some (le_or_lt (overrun v) 0)
    where
      without : overrun v ≤ 0 → job_response v k + k * v.period ≤ ct.active
      without h = omega (arith, response_without v k (omega arith), released_before_end v sv ct, budget_end_within v sv ct)

      each : (l : ℕ) → l < resources v → response_with v k l ≤ ct.active - k * v.period
      each l within =
          ⊎_elim (λ (u : held v l ≤ 0). omega (arith, uncounted_response v k l u))
          (λ (u : 0 < held v l). omega (arith, counted_response v k l u, job_end_within v sv ct l within u))
          (le_or_lt (held v l) 0)

      with_some : 0 < overrun v → job_response v k + k * v.period ≤ ct.active
      with_some h =
          omega (
            arith,
            response_with_lem v k h,
            largest_at_most (response_with v k) (resources v) (ct.active - k * v.period) each,
            released_before_end v sv ct,
            budget_end_within v sv ct,
          )

  -- It leaves Q before the end of the next job's budget.
  pub response_before_next : Counted v (k + 1) → job_response v k + k * v.period + v.budget ≤ budget_end v (k + 1)
  response_before_next next = ⊎_elim without with_some (le_or_lt (overrun v) 0)
    where
      without : overrun v ≤ 0 → job_response v k + k * v.period + v.budget ≤ budget_end v (k + 1)
      without h =
          omega (arith, response_without v k (omega arith), released_before_end v sv ct, budget_end_next v sv ct next, budget_at_most v)

      each : (l : ℕ) → l < resources v → response_with v k l ≤ budget_end v (k + 1) - v.budget - k * v.period
      each l within =
          ⊎_elim (λ (u : held v l ≤ 0). omega (arith, uncounted_response v k l u))
          (λ (u : 0 < held v l). omega (arith, counted_response v k l u, job_end_before_next v sv ct l within u next))
          (le_or_lt (held v l) 0)

      with_some : 0 < overrun v → job_response v k + k * v.period + v.budget ≤ budget_end v (k + 1)
      with_some h =
          omega (
            arith,
            response_with_lem v k h,
            largest_at_most (response_with v k) (resources v) (budget_end v (k + 1) - v.budget - k * v.period) each,
            released_before_end v sv ct,
            budget_end_next v sv ct next,
            budget_at_most v,
          )

  -- Where each job end is within X(s, l) of the budget's end, the job ends within X of it.
  response_by : ((l : ℕ) → l < resources v → 0 < held v l → job_end v k l ≤ budget_end v k + held v l) → job_response v k + k * v.period ≤ budget_end v k + overrun v
  response_by ends = ⊎_elim without with_some (le_or_lt (overrun v) 0)
    where
      without : overrun v ≤ 0 → job_response v k + k * v.period ≤ budget_end v k + overrun v
      without h = omega (arith, response_without v k (omega arith), released_before_end v sv ct)

      each : (l : ℕ) → l < resources v → response_with v k l ≤ budget_end v k + overrun v - k * v.period
      each l within =
          ⊎_elim (λ (u : held v l ≤ 0). omega (arith, uncounted_response v k l u))
          (λ (u : 0 < held v l). omega (arith, counted_response v k l u, ends l within u, held_at_most v l within))
          (le_or_lt (held v l) 0)

      with_some : 0 < overrun v → job_response v k + k * v.period ≤ budget_end v k + overrun v
      with_some h =
          omega (
            arith,
            response_with_lem v k h,
            largest_at_most (response_with v k) (resources v) (budget_end v k + overrun v - k * v.period) each,
            released_before_end v sv ct,
          )

  -- So it is where no higher subsystem comes between, and where none has a period that begins before.
  pub response_plain : Plain v.holdings v.ceilings → job_response v k + k * v.period ≤ budget_end v k + overrun v
  response_plain plain = response_by (λ l within u. job_end_unasked v sv ct l within u (λ t w. absurd (omega (arith, w, highest l within u))))
    where
      highest : (l : ℕ) → l < resources v → 0 < held v l → ceiling v l ≡ 0
      highest l within u = unfold held ceiling in plain l within u

  pub response_unasked : ((t : ℕ) → t < v.place → budget_end v k + overrun v ≤ up (budget_end v k) (get_or v.periods t 0) * get_or v.periods t 0) → job_response v k + k * v.period ≤ budget_end v k + overrun v
  response_unasked quiet =
      response_by
      (λ l within u.
      job_end_unasked v sv ct l within u
      (λ t w. omega (arith, quiet t (omega (arith, w, sv.ceiling_reaches l within u)), held_at_most v l within)))

------------------------------------------------------------------------
-- The worst of the jobs so far; before the first there is none, and 0 stands for its response

module _ (v : View) where
  unfoldable pub WorstTo : ℕ → Worst → Type 0
  WorstTo n w = (w.response ≡ response v n) × (1 ≤ n → w ≡ worst_of v n)

  pub worst_to_none : WorstTo 0 (record { response = 0; job = 0; resource = 0 })
  unfolding WorstTo response
  worst_to_none = (sym (largest_to_zero (job_response v)), λ h. absurd (omega arith))

  worst_is_all : (n : ℕ) {w : Worst} → w ≡ worst_of v n → WorstTo n w
  unfolding WorstTo worst_of
  worst_is_all n e = (ap (λ (x : Worst). x.response) e, λ _. e)

  -- One job more, judged.
  pub worst_to_judged :
      (n : ℕ) → 0 < job_response v 0 → (w : Worst) {r : Worst} {j : Job} → WorstTo n w → j ≡ job_of v n →
      r ≡ cond (ltb w.response j.response) (record { response = j.response; job = n; resource = j.resource }) w → WorstTo (n + 1) r
  unfolding WorstTo response
  worst_to_judged zero pos w {r} {j} h e f = worst_is_all 1 (f ∙ rw (lt-ltb w.response j.response above) (worst_first v e))
    where
      above : w.response < j.response
      above = unfold job_of in omega (arith, h.0, largest_to_zero (job_response v), ap (λ (i : Job). i.response) e)
  worst_to_judged (suc n) pos w h e f = worst_is_all (suc n + 1) (worst_step v (suc n) (h.1 (omega arith)) e f)

  -- One job more, passed over.
  pub worst_to_passed : (n : ℕ) → 1 ≤ n → (w : Worst) → WorstTo n w → job_response v n ≤ w.response → WorstTo (n + 1) w
  unfolding WorstTo response
  worst_to_passed n from w h u = worst_is_all (n + 1) (h.1 from ∙ worst_stays v n (omega (arith, h.0)))

  pub worst_of_all : (n m : ℕ) (w : Worst) → n + 1 ≡ m → WorstTo (n + 1) w → w ≡ worst_of v m
  unfolding WorstTo
  worst_of_all n m w e h = h.1 (omega arith) ∙ ap (worst_of v) e

-- A job has ended by then where the code says so.
module _ (v : View) (sv : SoundView v) (k : ℕ) (ct : Counted v k) (after : Counted v (k + 1)) {end next c : ℕ} {ends : List ℕ} (e : Ended v k end ends) (f : next ≡ budget_end v (k + 1)) (g : c ≡ cost v) where
  module _ (plain : Bool) (h : plain ≡ true → Plain v.holdings v.ceilings) where
    by_then : (plain ≡ true) ⊎ ((t : ℕ) → t < v.place → end + (c - v.budget) ≤ get_or ends t 0) → job_response v k + k * v.period ≤ end + (c - v.budget)
    unfolding cost
    by_then (inl p) = omega (arith, e.is_end, g, response_plain v sv ct (h p))
    by_then (inr q) =
        omega (
          arith,
          e.is_end,
          g,
          response_unasked v sv ct
              (λ t u. rw (← e.is_end) (omega (arith, q t u, e.ends_at t u, g))),
        )

    pub ended_by : {by : ℕ} → EndedBy v.place v.budget plain (end + (c - v.budget)) next ends by → job_response v k + k * v.period ≤ by
    ended_by (inl q) = omega (arith, by_then q.0, q.1)
    ended_by (inr q) = omega (arith, f, q, response_before_next v sv ct after)

-- Where that is no later than the worst so far responds, the job is passed over. It is never the first.
pub passed_over : (v : View) → SoundView v → (k : ℕ) → Counted v k → (w : Worst) → job_response v k + k * v.period ≤ w.response + k * v.period → WorstTo v k w → WorstTo v (k + 1) w
unfolding WorstTo response
passed_over v sv k ct w ends h =
    ⊎_elim (λ (z : k ≤ 0). absurd (first z))
    (λ (from : 0 < k). worst_to_passed v k from w h (omega (arith, ends)))
    (le_or_lt k 0)
  where
    first : k ≤ 0 → ⊥
    first z =
        let none : k ≡ 0 = omega arith in
        let zero-response : w.response ≡ 0 = h.0 ∙ ap (largest_to (job_response v)) none ∙ largest_to_zero (job_response v) in
        omega (arith, response_above_zero v sv ct, ends)

------------------------------------------------------------------------
-- The jobs after which no later one can be worse: each leaves Q + X for every job behind it within the active period.

module _ (v : View) (sv : SoundView v) {active n : ℕ} (jobs-are : Jobs v active n) where
  abbrev job : (j : ℕ) → j < n → Counted v j
  job j h = record { active = active; is_active = jobs-are.is_active; among = rw (← jobs-are.all) h }

  -- From F(j) on, X and Q + X for each of the d jobs behind job j are still to come.
  end_leaves : (d j : ℕ) → j + d + 1 ≡ n → budget_end v j + d * cost v + cost v ≤ active + v.budget
  end_leaves zero j e = omega (arith, last_leaves v sv (job j (omega arith)))
  end_leaves (suc d) j e =
      let here = job j (omega arith) in
      let next = job (j + 1) (omega arith) in
      omega (arith, end_leaves d (j + 1) (omega arith), budget_end_next v sv here next, suc-mul d (cost v))

  -- So from where job j ends, Q + X for each of them.
  response_leaves : (d j : ℕ) → j + d + 1 ≡ n → job_response v j + j * v.period + d * cost v ≤ active
  response_leaves zero j e = omega (arith, response_within v sv (job j (omega arith)))
  response_leaves (suc d) j e =
      let here = job j (omega arith) in
      let next = job (j + 1) (omega arith) in
      omega (arith, response_before_next v sv here next, end_leaves d (j + 1) (omega arith), suc-mul d (cost v))

  -- What the jobs behind job 0 leave is there.
  pub room_fits : (n - 1) * cost v ≤ active
  room_fits = omega (arith, response_leaves (n - 1) 0 (omega (arith, some_jobs v sv jobs-are)))

  module _ (k : ℕ) (w : Worst) (settled : active - (n - 1) * cost v ≤ w.response + k * (v.period - cost v)) where
    -- No job from k on is worse.
    no_worse : (j : ℕ) → k ≤ j → j < n → job_response v j ≤ w.response
    no_worse j h u =
        let d : ℕ = n - 1 - j in
        let period : j * v.period ≡ j * (v.period - cost v) + j * cost v = ap (λ (p : ℕ). j * p) (omega (arith, sv.fits)) ∙ mul-add j (v.period - cost v) (cost v) in
        let all : (n - 1) * cost v ≡ j * cost v + d * cost v = ap (λ (m : ℕ). m * cost v) (omega arith) ∙ add-mul j d (cost v) in
        let later : k * (v.period - cost v) ≤ j * (v.period - cost v) = mul-le-mul_right (v.period - cost v) h in
        omega (arith, response_leaves d j (omega arith), period, all, later, settled)

    -- So the worst so far is the worst of all.
    stays : (d : ℕ) → k + d ≤ n → 1 ≤ k → WorstTo v k w → WorstTo v (k + d) w
    stays zero h from g = rw (add-zero k) g
    stays (suc d) h from g =
        rw (← add-one d, ← add_assoc k d 1)
        (worst_to_passed v (k + d) (omega arith) w (stays d (omega arith) from g) (no_worse (k + d) (omega arith) (omega arith)))

    pub settled_worst : k < n → WorstTo v k w → w ≡ worst_of v n
    unfolding WorstTo response
    settled_worst h g =
        ⊎_elim (λ (z : k ≤ 0). absurd (never z))
        (λ (from : 0 < k). (rw whole at (stays (n - k) (omega arith) from g)).1 (omega arith))
        (le_or_lt k 0)
      where
        whole : k + (n - k) ≡ n
        whole = omega arith

        never : k ≤ 0 → ⊥
        never z =
            let none : k ≡ 0 = omega arith in
            let zero-response : w.response ≡ 0 = g.0 ∙ ap (largest_to (job_response v)) none ∙ largest_to_zero (job_response v) in
            omega (arith, response_above_zero v sv (job 0 (omega arith)), no_worse 0 (omega arith) (omega arith))

  -- As the code computes it, with what its own load costs.
  module _ {c : ℕ} (e : c ≡ cost v) where
    pub room_there : (n - 1) * c ≤ active
    room_there = rw e room_fits

    -- From some job on, and so from a later one.
    pub settled_from : (j k : ℕ) (w : Worst) → active - (n - 1) * c ≤ w.response + j * (v.period - c) → j ≤ k → k < n → WorstTo v k w → w ≡ worst_of v n
    settled_from j k w t h u g =
        let later : j * (v.period - c) ≤ k * (v.period - c) = mul-le-mul_right (v.period - c) h in
        let tested : active - (n - 1) * c ≤ w.response + k * (v.period - c) = omega (arith, t, later) in
        settled_worst k w (rw e at tested) u g
