-- Laws of the row: from its parts, with an active period and without. Assumes nothing.
use Prim.Native.Nat.{ℕ, ◌-◌, ◌≤◌, ◌<◌}
use native.Mathlib.Omega.{arith}
use mathlib.Core.Path.{◌≡◌, ap, ◌∙◌}
use mathlib.Core.Option.{none, some}
use lib.ListN.{get_or}
use Rattle.least.specs.Up.{up}
use Rattle.least.specs.Share.{Fitting}
use Rattle.least.proofs.ShareLaws.{no_least_beyond}
use Rattle.table.specs.Limits.{horizon}
use Rattle.row.specs.declared.Outcome.{Outcome}
use Rattle.row.specs.declared.Outcome.TheVariants.{None}
use Rattle.job.specs.declared.Worst.{Worst}
use Rattle.job.specs.View.{View, overrun, cost}
use Rattle.job.specs.Ends.{active_period, jobs}
use Rattle.row.specs.Row.{judged, row_with, row_without, row_for}
use Rattle.job.specs.Sound.{SoundView}
use Rattle.job.specs.Computed.{worst_of}

module _ (v : View) where
  -- The row where the search has found none.
  pub row_without_lem : (failing : ℕ) {x : ℕ} → x ≡ overrun v → active_period v ≡ none → record { holding = x; failing = failing; blocking = v.blocking; active = 0; jobs = 0; job = 0; resource = 0; outcome = None } ≡ row_for v failing (active_period v)
  unfolding row_for row_without
  row_without_lem failing {x} e q =
      rw q
      (λ i.
      record {
        holding = e i;
        failing = failing;
        blocking = v.blocking;
        active = 0;
        jobs = 0;
        job = 0;
        resource = 0;
        outcome = None;
      })

  -- The row with an active period.
  pub row_with_lem : (failing active : ℕ) {x n : ℕ} {w : Worst} {o : Outcome} → x ≡ overrun v → n ≡ up active v.period → w ≡ worst_of v n → o ≡ judged v.period w.response → record { holding = x; failing = failing; blocking = v.blocking; active = active; jobs = n; job = w.job; resource = w.resource; outcome = o } ≡ row_for v failing (some active)
  unfolding row_for row_with jobs worst_of
  row_with_lem failing active {x} {n} {w} {o} e h q j =
      (λ i.
      record {
        holding = e i;
        failing = failing;
        blocking = v.blocking;
        active = active;
        jobs = n;
        job = (q i).job;
        resource = (q i).resource;
        outcome = (j ∙ ap (λ (u : Worst). judged v.period u.response) q) i;
      }) ∙
      ap (λ (m : ℕ). row_with v failing active m) h

module _ (v : View) (sv : SoundView v) where
  -- X(s) as the code computes it.
  pub budget_below : v.budget ≤ get_or v.costs v.place 0
  unfolding cost
  budget_below = omega (arith, sv.own_cost)

  pub overrun_computed : get_or v.costs v.place 0 - v.budget ≡ overrun v
  unfolding cost
  overrun_computed = omega (arith, sv.own_cost)

  -- Loads that ask for too much leave no active period.
  pub never_active : {n r : ℕ} → Fitting v.periods v.costs n r → v.place < n → r ≤ v.place → active_period v ≡ none
  unfolding active_period
  never_active f u h = no_least_beyond v.periods v.costs f h u sv.fit.loads v.blocking horizon
