-- Laws of one job's ends, as searches over lent loads find them; and which numbers are jobs. Assumes nothing.
use Prim.Native.Nat.{ℕ, ◌+◌, ◌-◌, ◌*◌, ◌^◌, ◌≤◌, ◌<◌}
use native.Mathlib.Nat.{mul-le-mul_right}
use native.Mathlib.Omega.{arith}
use mathlib.Core.Path.{◌≡◌, refl, sym, ap, ap₂, ◌∙◌}
use mathlib.Core.List.{List}
use mathlib.Core.Option.{Option, none, some}
use lib.ListN.{get_or, replicate}
use Rattle.lists.proofs.Over.{sum_to_at_most}
use Rattle.least.specs.Up.{up}
use Rattle.least.specs.Demand.{load_in, demand, total}
use Rattle.least.specs.Search.{ComesDown, IsLeast}
use Rattle.search.specs.After.{afterwards, Waits, Frees, After, Found}
use Rattle.least.proofs.Up.{up_at_most}
use Rattle.least.proofs.Demand.{total_mono}
use Rattle.least.proofs.Search.{stands_at_one, stands_next, least_is_one}
use Rattle.table.specs.Limits.{most, horizon}
use Rattle.job.specs.View.{View, resources, held, ceiling}
use Rattle.job.specs.Ends.{active_period, jobs, ahead, budget_end, job_end}
use Rattle.job.specs.JobCount.{jobs_in, job_count}
use Rattle.job.specs.Sound.{SoundView, Counted, Active}
use Rattle.job.specs.Computed.{BudgetOver}
use Rattle.job.proofs.ActiveLaws.{budget_at_most, active_total, active_starts, active_within}
use Rattle.job.proofs.BudgetEndLaws.{jobs_fit, budget_comes_down, budget_found}
use Rattle.job.proofs.WaitLaws.{all_ahead, after_none, active_found}
use Rattle.job.proofs.JobEndLaws.{job_total, job_constant, constant_by_end, job_end_is_least}
use Rattle.job.proofs.ResponseLaws.{after_end}

-- The number of jobs, from what the search for the active period has found.
module _ (v : View) where
  pub jobs_with : {active n : ℕ} → active_period v ≡ some active → n ≡ up active v.period → n ≡ job_count v
  unfolding job_count jobs
  jobs_with a e = e ∙ ap (jobs_in v) (sym a)

  pub jobs_without : active_period v ≡ none → 0 ≡ job_count v
  unfolding job_count
  jobs_without a = ap (jobs_in v) (sym a)

  -- The numbers below it are the jobs of the active period.
  pub counted_below : {k : ℕ} → k < job_count v → Counted v k
  unfolding job_count
  counted_below {k} h = below (active_period v) refl h
    where
      below : (o : Option ℕ) → active_period v ≡ o → k < jobs_in v o → Counted v k
      below (some active) e u = record { active = active; is_active = e; among = u }
      below none e u = absurd (omega arith)

  pub counted_is_below : {k : ℕ} → Counted v k → k < job_count v
  unfolding job_count
  counted_is_below ct = rw ct.is_active ct.among

-- Searches over lists p and c that are the loads which the view has.
module _ (v : View) (sv : SoundView v) {p c : List ℕ} (ep : p ≡ v.periods) (ec : c ≡ v.costs) where
  -- The active period: a search from 1, by which every load has asked once.
  module _ {b a : ℕ} (eb : b ≡ v.blocking) (ea : a ≡ demand p c (v.place + 1) 1) where
    abbrev once : ℕ
    once = demand v.periods v.costs (v.place + 1) 1

    once_pos : 1 ≤ v.blocking + once
    unfolding total
    once_pos = active_starts v sv

    once_small : once ≤ (v.place + 1) * 2 ^ 20
    unfolding demand load_in
    once_small =
        sum_to_at_most (load_in v.periods v.costs 1) (v.place + 1) (2 ^ 20)
        (λ t u.
        let f = sv.fit.loads in
        let few : up 1 (get_or v.periods t 0) * get_or v.costs t 0 ≤ 1 * get_or v.costs t 0 = mul-le-mul_right (get_or v.costs t 0) (up_at_most 1 (get_or v.periods t 0) (f.period_pos t u)) in
        omega (arith, few, f.cost_small t u))

    all_once : b + a ≡ v.blocking + once
    all_once = ap₂ ◌+◌ eb (ea ∙ ap₂ (λ (x y : List ℕ). demand x y (v.place + 1) 1) ep ec)

    is_once : b + a - 1 ≡ v.blocking + once - 1
    is_once = ap (λ (x : ℕ). x - 1) all_once

    pub once_fits : (1 ≤ b + a) × (b + a < 2 ^ 25)
    once_fits =
        let listed : v.place + 1 ≤ 8 = omega (arith, sv.few) in
        let few : (v.place + 1) * 2 ^ 20 ≤ 8 * 2 ^ 20 = mul-le-mul_right (2 ^ 20) listed in
        (omega (arith, all_once, once_pos), omega (arith, all_once, once_small, few, sv.blocking_small))

    left : afterwards v.periods v.costs (v.place + 1) 1 (v.blocking + once - 1) ≡ v.blocking
    left = omega (arith, once_pos)

    there : 1 + (v.blocking + once - 1) ≡ active_total v 1
    unfolding total
    there = omega (arith, once_pos)

    pub active_lent : Waits p c (v.place + 1) 1 (b + a - 1)
    active_lent =
        rw (ep, ec, is_once)
        (record {
          fit = sv.fit;
          few = omega (arith, sv.few);
          asked = omega (arith, once_pos);
          stands =
              rw (left, there)
              (stands_next (active_total v) (total_mono v.periods v.costs (v.place + 1) v.blocking sv.fit.loads) (stands_at_one (active_total v) (active_starts v sv)));
          small = omega (arith, is_once, once_fits.1, once_pos);
        })

    pub active_at : {after : List ℕ} {r : ℕ} → Found p c after (v.place + 1) (afterwards p c (v.place + 1) 1 (b + a - 1)) horizon r → Active v r
    active_at {after} {r} f = active_found v sv (rw (ep, ec, is_once, left) at f)

  module _ {k : ℕ} (ct : Counted v k) where
    -- F(k): a search from nothing.
    pub ahead_small : ahead v k < 2 ^ 25
    ahead_small = omega (arith, jobs_fit v sv ct, budget_at_most v, active_within v sv ct.is_active)

    pub budget_lent : {a : ℕ} → a ≡ ahead v k → {f : List ℕ} → Frees p c f (v.place + 1) → After p c f (replicate most 0) v.place 0 a 0 × ComesDown (total p c v.place (afterwards p c v.place 0 a))
    budget_lent {a} e {f} fr =
        rw (ep, ec)
        (after_none v sv k e (omega (arith, ahead_small)) {frees = f} (rw (ep, ec) at fr), rw (all_ahead v sv a, e) (budget_comes_down v sv ct))

    pub budget_at_lem : {a z : ℕ} → a ≡ ahead v k → IsLeast (total p c v.place (afterwards p c v.place 0 a)) z → z ≡ budget_end v k
    budget_at_lem {a} {z} e i = budget_found v sv ct (rw (ep, ec, all_ahead v sv a, e) at i)

    -- The end with resource l: a search from where the budget ends.
    module _ (l : ℕ) (within : l < resources v) (counts : 0 < held v l) {n end h : ℕ} (en : n ≡ ceiling v l) (ee : end ≡ budget_end v k) (eh : h ≡ held v l) where
      pub after_lent : BudgetOver p c n end h
      after_lent = rw (ep, ec, en, eh) (after_end v sv ct l within ee counts)

      pub job_at : {z : ℕ} → IsLeast (total p c n (afterwards p c n end h)) z → z ≡ job_end v k l
      job_at i =
          let j = rw (ep, ec, en, ee, eh) at i in
          let constant : afterwards v.periods v.costs (ceiling v l) (budget_end v k) (held v l) ≡ job_constant v k l = omega (arith, constant_by_end v sv ct l within counts) in
          least_is_one (job_total v k l) (rw constant at j) (job_end_is_least v sv ct l within counts)
