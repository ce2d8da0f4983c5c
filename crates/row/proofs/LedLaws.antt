-- Rows are the same where only the resources that lead count as held: with one ceiling, job ends come in the order of the
-- holding times. Assumes nothing.
use Prim.Native.Nat.{ℕ, suc, ◌+◌, ◌-◌, ◌*◌, ◌≤◌, ◌<◌}
use native.Mathlib.Omega.{arith}
use mathlib.Core.Path.{◌≡◌, refl, sym, ap, ap₂, ◌∙◌}
use mathlib.Core.Bool.{cond}
use mathlib.Core.Logic.{◌⊎◌, inl, inr, ⊎_elim}
use mathlib.Core.Option.{Option, none, some}
use lib.Dec.{ltb}
use lib.ListN.{get_or}
use borrow.Author.Tests.{lt-ltb}
use Rattle.lists.specs.Range.{largest_to, up_to}
use Rattle.lists.proofs.Over.{le_or_lt, largest_to_ext}
use Rattle.lists.proofs.UpTo.{length_up_to, get_d_up_to}
use Rattle.least.specs.Demand.{demand, demand_between, total}
use Rattle.least.specs.Least.{least}
use Rattle.least.specs.Search.{IsLeast}
use Rattle.table.specs.Limits.{horizon}
use Rattle.outer.specs.Blocking.{number_or}
use Rattle.outer.specs.Leading.{led}
use Rattle.outer.proofs.LeadingLaws.{leads_or_not, leader_of}
use Rattle.job.specs.View.{View, resources, held, ceiling, overrun, cost}
use Rattle.job.specs.Ends.{active_period, jobs, ahead, budget_end, shut_out, job_end}
use Rattle.job.specs.Response.{first_at, response_with, job_response, job_resource, response, worst_job}
use Rattle.row.specs.Row.{judged, row_with, row_without, row_for}
use Rattle.job.specs.Sound.{SoundView, Counted}
use Rattle.job.proofs.FirstAtLaws.{largest_led, first_at_led, first_at_ext, first_at_below}
use Rattle.job.proofs.ActiveLaws.{some_job}
use Rattle.job.proofs.JobEndLaws.{job_total, job_end_is_least, released_before_job_end}

-- The view in which only the resources that lead count as held.
abbrev pub led_view : View → View
led_view v =
    record {
      periods = v.periods;
      costs = v.costs;
      holdings = up_to (led (held v) (ceiling v) (resources v)) (resources v);
      ceilings = v.ceilings;
      place = v.place;
      period = v.period;
      budget = v.budget;
      blocking = v.blocking;
    }

module _ (v : View) where
  pub resources_led : resources (led_view v) ≡ resources v
  resources_led = length_up_to (led (held v) (ceiling v) (resources v)) (resources v)

  held_led : (l : ℕ) → l < resources v → held (led_view v) l ≡ led (held v) (ceiling v) (resources v) l
  unfolding held
  held_led l h = get_d_up_to (led (held v) (ceiling v) (resources v)) (resources v) l 0 h

  -- A resource counts as before, or not at all.
  led_or_not : (l : ℕ) → l < resources v → (held (led_view v) l ≡ held v l) ⊎ (held (led_view v) l ≡ 0)
  led_or_not l h =
      ⊎_elim (λ (e : led (held v) (ceiling v) (resources v) l ≡ held v l). inl (held_led l h ∙ e))
      (λ (e : led (held v) (ceiling v) (resources v) l ≡ 0). inr (held_led l h ∙ e))
      (leads_or_not (held v) (ceiling v) (resources v) l)

  -- X(s) stays.
  pub overrun_led : overrun (led_view v) ≡ overrun v
  unfolding overrun
  overrun_led =
      ap (largest_to (held (led_view v))) resources_led ∙
      largest_led (held v) (held (led_view v)) (resources v)
      (λ l h.
      ⊎_elim (λ (e : held (led_view v) l ≡ held v l). omega arith) (λ (e : held (led_view v) l ≡ 0). omega arith)
      (led_or_not l h))
      (λ l h u.
      let j = leader_of (held v) (ceiling v) (resources v) l h u in
      (j.0, j.1, sym (held_led j.0 j.1 ∙ j.3), j.4))

  pub cost_led : cost (led_view v) ≡ cost v
  unfolding cost
  cost_led = ap (λ (x : ℕ). v.budget + x) overrun_led

  -- So do the ends.
  ahead_led : (k : ℕ) → ahead (led_view v) k ≡ ahead v k
  unfolding ahead
  ahead_led k = ap (λ (x : ℕ). v.blocking + k * x + v.budget) cost_led

  budget_end_led : (k : ℕ) → budget_end (led_view v) k ≡ budget_end v k
  unfolding budget_end
  budget_end_led k = ap (λ (a : ℕ). number_or 0 (least v.periods v.costs v.place a horizon)) (ahead_led k)

  job_end_led : (k l : ℕ) → held (led_view v) l ≡ held v l → job_end (led_view v) k l ≡ job_end v k l
  unfolding job_end shut_out ceiling
  job_end_led k l e =
      ap (λ (a : ℕ). number_or 0 (least v.periods v.costs (get_or v.ceilings l 0) a horizon))
      (ap₂ ◌+◌ (ap₂ ◌+◌ (ahead_led k) e)
      (ap (λ (f : ℕ). demand_between v.periods v.costs (get_or v.ceilings l 0) v.place f) (budget_end_led k)))

  -- The response with a resource that counts stays; another's is 0.
  response_led : (k l : ℕ) → held (led_view v) l ≡ held v l → response_with (led_view v) k l ≡ response_with v k l
  unfolding response_with
  response_led k l e = ap₂ (λ (x z : ℕ). cond (ltb 0 x) (z - k * v.period) 0) e (job_end_led k l e)

  response_of_none : (w : View) (k l : ℕ) → held w l ≡ 0 → response_with w k l ≡ 0
  unfolding response_with
  response_of_none w k l e = rw e refl

  pub response_of_some : (k l : ℕ) → 0 < held v l → response_with v k l ≡ job_end v k l - k * v.period
  unfolding response_with
  response_of_some k l u = rw (lt-ltb 0 (held v l) u) refl

  pub some_held : (k l : ℕ) → 0 < response_with v k l → 0 < held v l
  some_held k l u =
      ⊎_elim (λ (z : held v l ≤ 0). absurd (omega (arith, response_of_none v k l (omega arith)))) (λ (p : 0 < held v l). p)
      (le_or_lt (held v l) 0)

module _ (v : View) (sv : SoundView v) {k : ℕ} (ct : Counted v k) where
  -- With one ceiling, a longer holding time gives a later job end, and the same one the same.
  job_end_later : (l j : ℕ) → l < resources v → j < resources v → 0 < held v l → ceiling v j ≡ ceiling v l → held v l < held v j → job_end v k l < job_end v k j
  unfolding total shut_out
  job_end_later l j a b u e h =
      let il = job_end_is_least v sv ct l a u in
      let ij = job_end_is_least v sv ct j b (omega arith) in
      let one : demand_between v.periods v.costs (ceiling v j) v.place (budget_end v k) ≡ demand_between v.periods v.costs (ceiling v l) v.place (budget_end v k) = ap (λ (r : ℕ). demand_between v.periods v.costs r v.place (budget_end v k)) e in
      let two : demand v.periods v.costs (ceiling v j) (job_end v k j) ≡ demand v.periods v.costs (ceiling v l) (job_end v k j) = ap (λ (r : ℕ). demand v.periods v.costs r (job_end v k j)) e in
      ⊎_elim
      (λ (q : job_end v k j ≤ job_end v k l).
      absurd (earlier il ij one two q))
      (λ (q : job_end v k l < job_end v k j). q)
      (le_or_lt (job_end v k j) (job_end v k l))
    where
      earlier : IsLeast (job_total v k l) (job_end v k l) → IsLeast (job_total v k j) (job_end v k j) → demand_between v.periods v.costs (ceiling v j) v.place (budget_end v k) ≡ demand_between v.periods v.costs (ceiling v l) v.place (budget_end v k) → demand v.periods v.costs (ceiling v j) (job_end v k j) ≡ demand v.periods v.costs (ceiling v l) (job_end v k j) → job_end v k j ≤ job_end v k l → ⊥
      earlier il ij one two q =
          ⊎_elim
          (λ (s : job_end v k j ≡ job_end v k l).
          omega (arith, il.solution, ij.solution, ap (λ (x : ℕ). demand v.periods v.costs (ceiling v l) x) s))
          (λ (s : job_end v k j < job_end v k l). omega (arith, il.before (job_end v k j) ij.from s, ij.solution))
          (native.Mathlib.Nat.eq-or-lt_of_le q)

  job_end_same : (l j : ℕ) → ceiling v j ≡ ceiling v l → held v l ≡ held v j → job_end v k l ≡ job_end v k j
  unfolding job_end shut_out
  job_end_same l j e h =
      ap₂ (λ (r x : ℕ). number_or 0 (least v.periods v.costs r (ahead v k + x + demand_between v.periods v.costs r v.place (budget_end v k)) horizon)) (sym e) h

  led_below : (l : ℕ) → l < resources v → response_with (led_view v) k l ≤ response_with v k l
  led_below l h =
      ⊎_elim (λ (e : held (led_view v) l ≡ held v l). omega (arith, response_led v k l e))
      (λ (e : held (led_view v) l ≡ 0). omega (arith, response_of_none v (led_view v) k l e))
      (led_or_not v l h)

  led_by : (l : ℕ) → l < resources v → 0 < response_with v k l → (j : ℕ) × (j < resources v) × (response_with v k j ≡ response_with (led_view v) k j) × ((response_with v k l < response_with v k j) ⊎ ((response_with v k l ≡ response_with v k j) × (j ≤ l)))
  led_by l h u =
      let p = some_held v k l u in
      let f = leader_of (held v) (ceiling v) (resources v) l h p in
      let j = f.0 in
      (j, f.1, sym (response_led v k j (held_led v j f.1 ∙ f.3)), order p f)
    where
      order : 0 < held v l → (f : (j : ℕ) × (j < resources v) × (ceiling v j ≡ ceiling v l) × (led (held v) (ceiling v) (resources v) j ≡ held v j) × ((held v l < held v j) ⊎ ((held v l ≡ held v j) × (j ≤ l)))) → (response_with v k l < response_with v k f.0) ⊎ ((response_with v k l ≡ response_with v k f.0) × (f.0 ≤ l))
      order p f =
          ⊎_elim
          (λ (q : held v l < held v f.0).
          inl
          (omega (arith, response_of_some v k l p, response_of_some v k f.0 (omega arith), job_end_later l f.0 h f.1 p f.2 q, released_before_job_end v sv ct l h p)))
          (λ (q : (held v l ≡ held v f.0) × (f.0 ≤ l)).
          inr (
            response_of_some v k l p ∙ ap (λ (z : ℕ). z - k * v.period) (job_end_same l f.0 f.2 q.0) ∙
                sym (response_of_some v k f.0 (omega (arith, q.0))),
            q.1,
          ))
          f.4

  -- A job's response and its lowest resource stay.
  job_response_led : job_response (led_view v) k ≡ job_response v k
  unfolding job_response
  job_response_led =
      ap₂ (λ (x z : ℕ). cond (ltb 0 x) z (budget_end (led_view v) k - k * v.period)) (overrun_led v)
      (ap (largest_to (response_with (led_view v) k)) (resources_led v) ∙
      largest_led (response_with v k) (response_with (led_view v) k) (resources v) led_below led_by) ∙
      ap (λ (f : ℕ). cond (ltb 0 (overrun v)) (largest_to (response_with v k) (resources v)) (f - k * v.period)) (budget_end_led v k)

  job_resource_led : job_resource (led_view v) k ≡ job_resource v k
  unfolding job_resource
  job_resource_led =
      ap₂ (λ (x z : ℕ). cond (ltb 0 x) (suc z) 0) (overrun_led v)
      (ap (first_at (response_with (led_view v) k)) (resources_led v) ∙
      first_at_led (response_with v k) (response_with (led_view v) k) (resources v) led_below led_by)

module _ (v : View) (sv : SoundView v) where
  active_led : active_period (led_view v) ≡ active_period v
  unfolding active_period
  active_led = refl

  module _ {active : ℕ} (is : active_period v ≡ some active) where
    counted : (k : ℕ) → k < jobs v active → Counted v k
    counted k h = record { active = active; is_active = is; among = h }

    worst_job_led : worst_job (led_view v) (jobs v active) ≡ worst_job v (jobs v active)
    unfolding worst_job
    worst_job_led =
        first_at_ext (job_response (led_view v)) (job_response v) (jobs v active) (λ k h. job_response_led v sv (counted k h))

    worst_is_job : worst_job v (jobs v active) < jobs v active
    unfolding worst_job
    worst_is_job = first_at_below (job_response v) (jobs v active) (some_job v sv is)

    row_with_led : (failing : ℕ) → row_with (led_view v) failing active (jobs v active) ≡ row_with v failing active (jobs v active)
    unfolding row_with response
    row_with_led failing =
        let r : largest_to (job_response (led_view v)) (jobs v active) ≡ largest_to (job_response v) (jobs v active) =
        largest_to_ext (job_response (led_view v)) (job_response v) (jobs v active) (λ k h. job_response_led v sv (counted k h)) in
        let w : job_resource (led_view v) (worst_job (led_view v) (jobs v active)) ≡ job_resource v (worst_job v (jobs v active)) =
        ap (job_resource (led_view v)) worst_job_led ∙ job_resource_led v sv (counted (worst_job v (jobs v active)) worst_is_job) in
        λ i.
        record {
          holding = overrun_led v i;
          failing = failing;
          blocking = v.blocking;
          active = active;
          jobs = jobs v active;
          job = worst_job_led i;
          resource = w i;
          outcome = judged v.period (r i);
        }

  -- The row stays.
  pub row_led : (failing : ℕ) → row_for (led_view v) failing (active_period (led_view v)) ≡ row_for v failing (active_period v)
  unfolding row_for row_without
  row_led failing = ap (row_for (led_view v) failing) active_led ∙ go (active_period v) refl
    where
      go : (o : Option ℕ) → active_period v ≡ o → row_for (led_view v) failing (active_period v) ≡ row_for v failing (active_period v)
      go (some active) e =
          ap (row_for (led_view v) failing) e ∙ same_jobs active ∙ row_with_led e failing ∙ ap (row_for v failing) (sym e)
        where
          same_jobs : (active : ℕ) → row_with (led_view v) failing active (jobs (led_view v) active) ≡ row_with (led_view v) failing active (jobs v active)
          same_jobs active = unfold jobs in refl
      go none e =
          ap (row_for (led_view v) failing) e ∙
          (λ i.
          record {
            holding = overrun_led v i;
            failing = failing;
            blocking = v.blocking;
            active = 0;
            jobs = 0;
            job = 0;
            resource = 0;
            outcome = Rattle.row.specs.declared.Outcome.TheVariants.None;
          }) ∙
          ap (row_for v failing) (sym e)

  -- And so does what it rests on.
  pub led_sound : SoundView (led_view v)
  led_sound =
      record {
        few = sv.few;
        fit = sv.fit;
        own_period = sv.own_period;
        own_cost = sv.own_cost ∙ sym (cost_led v);
        budget_pos = sv.budget_pos;
        fits = rw (cost_led v) sv.fits;
        period_small = sv.period_small;
        blocking_small = sv.blocking_small;
        few_resources = rw (resources_led v) sv.few_resources;
        same_resources = sv.same_resources ∙ sym (resources_led v);
        ceiling_reaches =
            λ l u k.
            let w : l < resources v = rw (resources_led v) at u in
            ⊎_elim (λ (e : held (led_view v) l ≡ held v l). same_ceiling l (sv.ceiling_reaches l w (omega arith)))
            (λ (e : held (led_view v) l ≡ 0). absurd (omega arith))
            (led_or_not v l w);
      }
    where
      same_ceiling : (l : ℕ) → ceiling v l ≤ v.place → ceiling (led_view v) l ≤ v.place
      same_ceiling l h = unfold ceiling in h
