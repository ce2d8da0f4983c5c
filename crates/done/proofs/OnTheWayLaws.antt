-- The active period, found on the way from job to job: with D(k) for where job k is done, it ends with the first of them that is done by
-- the next one's release. And the jobs, where they end when they are done. Assumes nothing.
use Prim.Native.Nat.{ℕ, ◌+◌, ◌-◌, ◌*◌, ◌≤◌, ◌<◌}
use native.Mathlib.Nat.{mul-le-mul_right, suc-mul}
use native.Mathlib.Numerals.{add-one}
use native.Mathlib.Omega.{arith}
use mathlib.Core.Path.{◌≡◌, refl, ap, ◌∙◌}
use mathlib.Core.Logic.{⊎_elim}
use mathlib.Core.List.{List}
use mathlib.Core.Option.{none, some}
use lib.ListN.{length, get_or}
use Rattle.lists.proofs.Over.{le_or_lt}
use Rattle.least.specs.Up.{up}
use Rattle.least.specs.Demand.{demand, total}
use Rattle.least.specs.Search.{IsLeast}
use Rattle.search.specs.After.{EndsAt, afterwards, Frees, After, Found}
use Rattle.least.proofs.Up.{up_holds, up_is_least, up_pos}
use Rattle.least.proofs.Demand.{total_mono}
use Rattle.least.proofs.Search.{stands_below, least_exists}
use Rattle.least.proofs.LeastLaws.{least_found, least_nowhere}
use Rattle.search.proofs.ClimbLaws.{starts_nowhere}
use Rattle.table.specs.Limits.{most, horizon}
use Rattle.job.specs.declared.Job.{Job}
use Rattle.job.specs.View.{View, overrun, cost}
use Rattle.job.specs.Ends.{active_period, ahead, budget_end}
use Rattle.job.specs.Computed.{job_of}
use Rattle.job.specs.Sound.{SoundView, FirstEnd}
use Rattle.job.proofs.ActiveLaws.{budget_at_most, period_pos, higher_loads, active_total, active_total_lem}
use Rattle.job.proofs.BudgetEndLaws.{stands_more}
use Rattle.job.proofs.WaitLaws.{frees_fewer, left_more, waits_more}
use Rattle.done.specs.Done.{done, done_total, FirstDone, EndsDone}
use Rattle.done.proofs.DoneLaws.{done_more}

-- No job before k is done by the next one's release: there is more to do then than time has passed.
abbrev pub Busy : View → ℕ → Type 0
Busy v k = (j y : ℕ) → j < k → 1 ≤ y → y ≤ (j + 1) * v.period → y < done_total v j y

-- Job k is done at `end`, within the horizon, with the ends of the higher subsystems' periods begun by then, and no job before it was
-- done by the next one's release.
pub record Reached (v : View) (k end : ℕ) (ends : List ℕ) : Type 0 where
  pub is_least : IsLeast (done_total v k) end
  pub within : end ≤ horizon
  pub with_end : most ≤ length ends
  pub ends_at : EndsAt v.periods ends v.place end
  pub busy : Busy v k
  pub released : k * v.period < end

pub reached_first : (v : View) {ends : List ℕ} {first : ℕ} → FirstDone v ends first → Reached v 0 first ends
reached_first v f =
    record {
      is_least = f.is_least;
      within = f.within;
      with_end = f.with_end;
      ends_at = f.ends_at;
      busy = λ j y h. absurd (omega arith);
      released = omega (arith, f.is_least.from);
    }

-- The job, as the code has it but for the end of its budget.
pub job_reached :
    (v : View) {resource : ℕ} → EndsDone v resource → {k end : ℕ} {ends : List ℕ} → Reached v k end ends → {x : ℕ} → x ≡ end - k * v.period →
    ◌≡◌ {A = Job} (record { end = budget_end v k; response = x; resource = resource }) (job_of v k)
unfolding job_of
job_reached v d {k} {end} r e =
    let j = d k end r.is_least r.within r.released in
    λ i. record { end = budget_end v k; response = (e ∙ j.0) i; resource = j.1 i }

module _ (v : View) (sv : SoundView v) where
  job_total_lem : (k x : ℕ) → done_total v k x ≡ v.blocking + (k + 1) * cost v + demand v.periods v.costs v.place x
  unfolding done total
  job_total_lem k x = refl

  -- Q + X, as the code has it.
  abbrev own : ℕ
  own = get_or v.costs v.place 0

  done_next : (k : ℕ) → done v (k + 1) ≡ done v k + own
  unfolding done
  done_next k = rw (add-one (k + 1)) (omega (arith, suc-mul (k + 1) (cost v), sv.own_cost))

  done_starts : (k : ℕ) → 1 ≤ done_total v k 1
  done_starts k =
      omega (arith, job_total_lem k 1, suc-mul k (cost v), ap (λ (j : ℕ). j * cost v) (add-one k), budget_at_most v, sv.budget_pos)

  -- Before `bound` there is more to do than time has passed, where that is so of job k and the jobs before it were busy.
  active_rises :
      (k bound : ℕ) → Busy v k → ((y : ℕ) → 1 ≤ y → y < bound → y < done_total v k y) → (y : ℕ) → 1 ≤ y → y < bound → y < active_total v y
  active_rises k bound busy rises y from h =
      ⊎_elim
      (λ (u : up y v.period ≤ k).
      let j : ℕ = up y v.period - 1 in
      let next : j + 1 ≡ up y v.period = omega (arith, up_pos y v.period (period_pos v sv) from) in
      let by : y ≤ (j + 1) * v.period = rw next (up_holds y v.period (period_pos v sv)) in
      omega (arith, busy j y (omega (arith, next, u)) from by, job_total_lem j y, ap (λ (q : ℕ). q * cost v) next, active_total_lem v sv y))
      (λ (u : k < up y v.period).
      let more : (k + 1) * cost v ≤ up y v.period * cost v = mul-le-mul_right (cost v) (omega (arith, u)) in
      omega (arith, rises y from h, job_total_lem k y, more, active_total_lem v sv y))
      (le_or_lt (up y v.period) k)

  -- Where a job is not done within the horizon, and none before it was done by the next one's release, there is no active period.
  none_beyond : (k : ℕ) → Busy v k → ((z : ℕ) → 1 ≤ z → z ≡ done_total v k z → horizon < z) → active_period v ≡ none
  unfolding active_period
  none_beyond k busy beyond =
      least_nowhere v.periods v.costs (v.place + 1) v.blocking horizon
      (λ x from e.
      ⊎_elim (λ (u : x ≤ horizon). absurd (omega (arith, e, active_rises k (horizon + 1) busy rises x from (omega (arith, u)))))
      (λ (u : horizon < x). u)
      (le_or_lt x horizon))
    where
      rises : (y : ℕ) → 1 ≤ y → y < horizon + 1 → y < done_total v k y
      rises y from u =
          ⊎_elim
          (λ (d : done_total v k y ≤ y).
          let l = least_exists (done_total v k) (total_mono v.periods v.costs v.place (done v k) (higher_loads v sv)) (done_starts k) y from d in
          absurd (omega (arith, beyond l.0 l.2.from l.2.solution, l.1, u)))
          (λ (d : y < done_total v k y). d)
          (le_or_lt (done_total v k y) y)

  module _ {k end : ℕ} {ends : List ℕ} (r : Reached v k end ends) where
    -- It is done by the next one's release: the active period ends there, and it is the last job.
    module _ (over : end ≤ (k + 1) * v.period) where
      pub last_job : k + 1 ≡ up end v.period
      last_job =
          ⊎_elim
          (λ (u : up end v.period ≤ k).
          let j : ℕ = up end v.period - 1 in
          let next : j + 1 ≡ up end v.period = omega (arith, up_pos end v.period (period_pos v sv) r.is_least.from) in
          let by : end ≤ (j + 1) * v.period = rw next (up_holds end v.period (period_pos v sv)) in
          let fewer : (j + 1) * cost v ≤ (k + 1) * cost v = mul-le-mul_right (cost v) (omega (arith, next, u)) in
          absurd (omega (arith, r.busy j end (omega (arith, next, u)) r.is_least.from by, job_total_lem j end, fewer, job_total_lem k end, r.is_least.solution)))
          (λ (u : k < up end v.period). omega (arith, u, up_is_least end v.period (k + 1) (period_pos v sv) over))
          (le_or_lt (up end v.period) k)

      pub active_reached : active_period v ≡ some end
      unfolding active_period
      active_reached =
          least_found v.periods v.costs (v.place + 1) v.blocking horizon
          (record {
            from = r.is_least.from;
            solution = omega (arith, r.is_least.solution, job_total_lem k end, active_total_lem v sv end, ap (λ (q : ℕ). q * cost v) last_job);
            before = active_rises k end r.busy r.is_least.before;
          })
          r.within

    -- It is not: the search goes on from there for the next one's end, with one budget more.
    module _ (late : (k + 1) * v.period < end) where
      busy_next : Busy v (k + 1)
      busy_next j y h from by =
          ⊎_elim
          (λ (u : k ≤ j).
          let same : j ≡ k = omega (arith, h, u) in
          rw same (r.is_least.before y from (omega (arith, by, ap (λ (i : ℕ). (i + 1) * v.period) same, late))))
          (λ (u : j < k). r.busy j y u from by)
          (le_or_lt k j)

      pub next_after : {frees : List ℕ} → Frees v.periods v.costs frees (v.place + 1) → After v.periods v.costs frees ends v.place end own 0
      next_after fr =
          record {
            waits = waits_more v sv (done v k) (done v (k + 1)) own (done_next k) r.is_least r.within (omega (arith, sv.own_cost));
            free = frees_fewer v.place fr (omega arith);
            with_end = omega (arith, r.with_end, sv.few);
            ends_at = r.ends_at;
            starts = starts_nowhere _ _;
          }

      module _ {after : List ℕ} {z : ℕ} (g : Found v.periods v.costs after v.place (afterwards v.periods v.costs v.place end own) horizon z) where
        found : Found v.periods v.costs after v.place (done v (k + 1)) horizon z
        found = rw (left_more v sv (done v k) (done v (k + 1)) own (done_next k) r.is_least) at g

        pub reached_next : z ≤ horizon → length after ≡ length ends → Reached v (k + 1) z after
        reached_next h same =
            let i = found.at h in
            record {
              is_least = i;
              within = h;
              with_end = omega (arith, same, r.with_end);
              ends_at = found.ends_at h;
              busy = busy_next;
              released = omega (arith, late, stands_below (done_total v (k + 1)) (stands_more v sv (done v k) (done v (k + 1)) own (done_next k) r.is_least) i.from (omega (arith, i.solution)));
            }

        -- Beyond the horizon there is no active period.
        pub nothing_reached : horizon < z → active_period v ≡ none
        nothing_reached h = none_beyond (k + 1) busy_next (found.beyond h)

  -- The same from the end of the first budget: job 0 is done with what it may hold besides.
  module _ {ends : List ℕ} {first : ℕ} (f : FirstEnd v ends first) {more : ℕ} (e : more ≡ overrun v) where
    done_first : done v 0 ≡ ahead v 0 + more
    done_first = omega (arith, done_more v 0, e)

    pub first_after : {frees : List ℕ} → Frees v.periods v.costs frees (v.place + 1) → After v.periods v.costs frees ends v.place first more 0
    unfolding cost
    first_after fr =
        record {
          waits = waits_more v sv (ahead v 0) (done v 0) more done_first f.is_least f.within (omega (arith, e));
          free = frees_fewer v.place fr (omega arith);
          with_end = omega (arith, f.with_end, sv.few);
          ends_at = f.ends_at;
          starts = starts_nowhere _ _;
        }

    module _ {after : List ℕ} {z : ℕ} (g : Found v.periods v.costs after v.place (afterwards v.periods v.costs v.place first more) horizon z) where
      first_found : Found v.periods v.costs after v.place (done v 0) horizon z
      first_found = rw (left_more v sv (ahead v 0) (done v 0) more done_first f.is_least) at g

      pub first_is_done : z ≤ horizon → length after ≡ length ends → FirstDone v after z
      first_is_done h same =
          record {
            is_least = first_found.at h;
            within = h;
            with_end = omega (arith, same, f.with_end);
            ends_at = first_found.ends_at h;
          }

      pub never_done : horizon < z → active_period v ≡ none
      never_done h = none_beyond 0 (λ j y u. absurd (omega arith)) (first_found.beyond h)
