-- Laws of the jobs of an active period, as one is computed after the other: each counts, and its numbers fit. Assumes nothing.
use Prim.Native.Nat.{ℕ, ◌+◌, ◌*◌, ◌^◌, ◌≤◌, ◌<◌}
use native.Mathlib.Nat.{mul-le-mul_left}
use native.Mathlib.Omega.{arith}
use mathlib.Core.Path.{◌≡◌, ap}
use Rattle.table.specs.Limits.{horizon}
use Rattle.job.specs.View.{View, cost}
use Rattle.job.specs.Ends.{ahead, budget_end}
use Rattle.job.specs.Sound.{SoundView, Counted}
use Rattle.responses.specs.Known.{Jobs}
use Rattle.job.proofs.ActiveLaws.{period_pos, active_within, some_job}
use Rattle.job.proofs.BudgetEndLaws.{ahead_holds_budget, budget_end_parts, budget_end_within, released_before_end}

-- Each number below the number of jobs is a job.
pub job_counted : (v : View) {active n : ℕ} → Jobs v active n → (k : ℕ) → k < n → Counted v k
job_counted v {active} j k h = record { active = active; is_active = j.is_active; among = rw (← j.all) h }

-- So is the one before.
pub counted_before : (v : View) {k : ℕ} → Counted v (k + 1) → Counted v k
counted_before v ct = record { active = ct.active; is_active = ct.is_active; among = omega (arith, ct.among) }

-- There is a job.
pub some_jobs : (v : View) → SoundView v → {active n : ℕ} → Jobs v active n → 1 ≤ n
some_jobs v sv j = rw j.all (some_job v sv j.is_active)

-- A job's release is within the machine's numbers, and its budget before the end of the budget of any job.
module _ (v : View) (sv : SoundView v) {k : ℕ} (ct : Counted v k) where
  pub release_fits : k * v.period < 2 ^ 32
  release_fits = omega (arith, released_before_end v sv ct, budget_end_within v sv ct, active_within v sv ct.is_active)

  pub end_small : budget_end v k ≤ horizon
  end_small = omega (arith, budget_end_within v sv ct, active_within v sv ct.is_active)

  pub job_small : k ≤ horizon
  job_small =
      let one_each : k * 1 ≤ k * v.period = mul-le-mul_left k (period_pos v sv) in
      omega (arith, one_each, released_before_end v sv ct, end_small)

  -- What it waits for besides higher subsystems, as the code adds it up.
  pub ahead_within : {c : ℕ} → c ≡ cost v → v.blocking + k * c + v.budget ≤ horizon
  unfolding ahead
  ahead_within e = omega (arith, ap (λ (x : ℕ). k * x) e, budget_end_parts v sv ct, end_small)

  pub budget_by_its_end : {end : ℕ} → end ≡ budget_end v k → v.budget ≤ end
  budget_by_its_end e = omega (arith, e, budget_end_parts v sv ct, ahead_holds_budget v k)
