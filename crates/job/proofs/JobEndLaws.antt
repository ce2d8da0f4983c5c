-- Laws of job ends (step 10): every job of an active period has one for each resource that counts, none is above the active
-- period, the search for it starts at F(k) + X(s, l), and its constant part is what F(k) leaves. Assumes nothing.
use Prim.Native.Nat.{ℕ, ◌+◌, ◌-◌, ◌*◌, ◌≤◌, ◌<◌}
use native.Mathlib.Nat.{mul-le-mul_right}
use native.Mathlib.Omega.{arith}
use mathlib.Core.Path.{◌≡◌, refl, sym, ap, ◌∙◌}
use mathlib.Core.Option.{some}
use lib.ListN.{get_or}
use Rattle.lists.proofs.Over.{sum_to_mono}
use Rattle.least.specs.Up.{up}
use Rattle.least.proofs.Up.{up_is_least}
use Rattle.least.specs.Demand.{load_in, demand, demand_between, total}
use Rattle.least.specs.Least.{least}
use Rattle.least.specs.Search.{Loads, Stands, ComesDown, IsLeast}
use Rattle.least.proofs.Demand.{demand_mono, demand_split, between_mono, loads_fewer}
use Rattle.least.proofs.Search.{least_stands, stands_below, stands_warm}
use Rattle.least.proofs.LeastLaws.{least_below}
use Rattle.table.specs.Limits.{horizon}
use Rattle.outer.specs.Blocking.{number_or}
use Rattle.job.specs.View.{View, resources, held, ceiling}
use Rattle.job.specs.Ends.{ahead, budget_end, shut_out, job_end}
use Rattle.job.specs.Sound.{SoundView, Counted}
use Rattle.job.proofs.ActiveLaws.{budget_and_held_at_most, higher_loads, active_from, active_within}
use Rattle.job.proofs.BudgetEndLaws.{budget_total, ahead_next, ahead_holds_budget, budget_end_next, jobs_fit, budget_end_is_least, budget_end_within, budget_end_parts, released_before_end}

-- The constant part, and what the job end of job k with resource l is the least solution of.
abbrev pub job_constant : View → ℕ → ℕ → ℕ
job_constant v k l = ahead v k + held v l + shut_out v k l

abbrev pub job_total : View → ℕ → ℕ → ℕ → ℕ
job_total v k l = total v.periods v.costs (ceiling v l) (job_constant v k l)

-- What the subsystems t < RC(l) ask for, and those from RC(l) up to s, in x ticks.
abbrev open_in : View → ℕ → ℕ → ℕ
open_in v l x = demand v.periods v.costs (ceiling v l) x

abbrev shut_in : View → ℕ → ℕ → ℕ
shut_in v l x = demand_between v.periods v.costs (ceiling v l) v.place x

module _ (v : View) (k l : ℕ) where
  job_total_lem : (x : ℕ) → job_total v k l x ≡ ahead v k + held v l + shut_in v l (budget_end v k) + open_in v l x
  unfolding total shut_out
  job_total_lem x = refl

module _ (v : View) (sv : SoundView v) {k : ℕ} (ct : Counted v k) (l : ℕ) (within : l < resources v) (counts : 0 < held v l) where
  reaches : ceiling v l ≤ v.place
  reaches = sv.ceiling_reaches l within counts

  both : (x : ℕ) → open_in v l x + shut_in v l x ≡ demand v.periods v.costs v.place x
  both x = demand_split v.periods v.costs (ceiling v l) v.place x reaches

  pub open_loads : Loads v.periods v.costs (ceiling v l)
  open_loads = loads_fewer (ceiling v l) (higher_loads v sv) reaches

  shut_mono : {x y : ℕ} → x ≤ y → shut_in v l x ≤ shut_in v l y
  shut_mono h = between_mono v.periods v.costs (ceiling v l) v.place (higher_loads v sv) reaches h

  open_mono : {x y : ℕ} → x ≤ y → open_in v l x ≤ open_in v l y
  open_mono h = demand_mono v.periods v.costs (ceiling v l) open_loads h

  -- The constant part by what is known at F(k): F(k) and X(s, l), without what the subsystems t < RC(l) ask for by F(k).
  pub constant_by_end : job_constant v k l + open_in v l (budget_end v k) ≡ budget_end v k + held v l
  unfolding shut_out
  constant_by_end = omega (arith, budget_end_parts v sv ct, both (budget_end v k))

  job_starts : 1 ≤ job_total v k l 1
  job_starts = omega (arith, job_total_lem v k l 1, ahead_holds_budget v k, sv.budget_pos)

  job_down : job_total v k l ct.active ≤ ct.active
  job_down =
      omega (arith, job_total_lem v k l ct.active, jobs_fit v sv ct, budget_and_held_at_most v l within, shut_mono (budget_end_within v sv ct), both ct.active)

  found : (z : ℕ) × (z ≤ ct.active) × (least v.periods v.costs (ceiling v l) (job_constant v k l) horizon ≡ some z) × IsLeast (job_total v k l) z
  found =
      least_below v.periods v.costs (ceiling v l) (job_constant v k l) horizon open_loads job_starts ct.active
      (active_from v sv ct.is_active)
      (active_within v sv ct.is_active)
      job_down

  is_found : job_end v k l ≡ found.0
  unfolding job_end
  is_found = ap (number_or 0) found.2

  -- The job end exists within the horizon.
  pub job_end_exists : least v.periods v.costs (ceiling v l) (job_constant v k l) horizon ≡ some (job_end v k l)
  job_end_exists = found.2 ∙ ap some (sym is_found)

  pub job_end_is_least : IsLeast (job_total v k l) (job_end v k l)
  job_end_is_least = rw is_found found.3

  -- It is not above L.
  pub job_end_within : job_end v k l ≤ ct.active
  job_end_within = rw is_found found.1

  -- The search for it may start at F(k) + X(s, l).
  pub job_end_starts : Stands (job_total v k l) (budget_end v k + held v l)
  job_end_starts =
      stands_warm (budget_total v k) (job_total v k l) (held v l) (least_stands (budget_total v k) (budget_end_is_least v sv ct))
      (λ y h. omega (arith, budget_total_is y, job_total_lem v k l y, both y, shut_mono {x = y} {y = budget_end v k} (omega arith)))
      (λ y h. omega (arith, job_total_lem v k l y, budget_end_parts v sv ct, both (budget_end v k), open_mono h))
    where
      budget_total_is : (y : ℕ) → budget_total v k y ≡ ahead v k + demand v.periods v.costs v.place y
      budget_total_is y = unfold total in refl

  -- So it is at or after that, and the job is released before.
  pub job_end_from : budget_end v k + held v l ≤ job_end v k l
  job_end_from =
      stands_below (job_total v k l) job_end_starts job_end_is_least.from (omega (arith, job_end_is_least.solution))

  pub released_before_job_end : k * v.period < job_end v k l
  released_before_job_end = omega (arith, released_before_end v sv ct, job_end_from)

  -- It is no later than X(s, l) after F(k) where none of the subsystems that may come between has a period that begins before.
  pub job_end_unasked : ((t : ℕ) → t < ceiling v l → budget_end v k + held v l ≤ up (budget_end v k) (get_or v.periods t 0) * get_or v.periods t 0) → job_end v k l ≤ budget_end v k + held v l
  job_end_unasked quiet =
      stands_below (job_total v k l) (least_stands (job_total v k l) job_end_is_least) (omega (arith, (budget_end_is_least v sv ct).from))
      (omega (arith, job_total_lem v k l (budget_end v k + held v l), constant_by_end, constant_is, no_more))
    where
      no_more : open_in v l (budget_end v k + held v l) ≤ open_in v l (budget_end v k)
      no_more =
          unfold demand load_in in
          sum_to_mono (load_in v.periods v.costs (budget_end v k + held v l)) (load_in v.periods v.costs (budget_end v k)) (ceiling v l)
          (λ t u.
          mul-le-mul_right (get_or v.costs t 0)
          (up_is_least (budget_end v k + held v l) (get_or v.periods t 0) (up (budget_end v k) (get_or v.periods t 0)) (open_loads.period_pos t u) (quiet t u)))

      constant_is : job_constant v k l ≡ ahead v k + held v l + shut_in v l (budget_end v k)
      constant_is = unfold shut_out in refl

  -- It is at least Q before the end of the next job's budget: by then all that the job may wait for has been asked for.
  pub job_end_before_next : Counted v (k + 1) → job_end v k l + v.budget ≤ budget_end v (k + 1)
  job_end_before_next next =
      let last : ℕ = budget_end v (k + 1) in
      let parts : last ≡ ahead v (k + 1) + demand v.periods v.costs v.place last = budget_end_parts v sv next in
      let room : v.budget + v.budget ≤ last = omega (arith, ahead_next v k, ahead_holds_budget v k, budget_and_held_at_most v l within) in
      let down : job_total v k l (last - v.budget) ≤ last - v.budget =
      omega (
        arith,
        job_total_lem v k l (last - v.budget),
        ahead_next v k,
        budget_and_held_at_most v l within,
        shut_mono {x = budget_end v k} {y = last} (omega (arith, budget_end_next v sv ct next)),
        open_mono {x = last - v.budget} {y = last} (omega arith),
        both last,
      )
      in
      omega (arith, stands_below (job_total v k l) (least_stands (job_total v k l) job_end_is_least) (omega (arith, sv.budget_pos)) down)

  -- Where a search for it may look.
  pub job_comes_down : ComesDown (job_total v k l)
  job_comes_down =
      record {
        top = ct.active;
        from = active_from v sv ct.is_active;
        within = omega (arith, active_within v sv ct.is_active);
        down = job_down;
      }
