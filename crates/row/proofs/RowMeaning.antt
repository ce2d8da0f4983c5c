-- What a row says, in the words of step 11: R covers every job and every resource that counts, the job is the first that reaches
-- it and the resource the lowest, and the outcome is none exactly where no active period ends at or below the horizon.
-- Assumes nothing.
use Prim.Native.Nat.{ℕ, suc, ◌+◌, ◌-◌, ◌*◌, ◌≤◌, ◌<◌}
use native.Mathlib.Nat.{eq-or-lt_of_le}
use native.Mathlib.Omega.{arith}
use mathlib.Core.Path.{◌≡◌, refl, sym, ap, ◌∙◌}
use mathlib.Core.Bool.{Bool, true, false, cond}
use mathlib.Core.Logic.{◌↔◌, ⊎_elim}
use mathlib.Core.Option.{Option, none, some}
use lib.Dec.{leb}
use borrow.Author.Tests.{eqb-true, eqb-false}
use Rattle.lists.specs.Range.{largest_to}
use Rattle.lists.proofs.Over.{below_largest, largest_reached}
use Rattle.lists.proofs.Largest.{first_largest_lem}
use Rattle.least.specs.Demand.{total}
use Rattle.least.proofs.LeastLaws.{least_none}
use Rattle.table.specs.Limits.{horizon}
use Rattle.row.specs.declared.Outcome.TheVariants.{Fits, Late, None}
use Rattle.job.specs.View.{View, resources, held, overrun}
use Rattle.job.specs.Ends.{active_period, job_end}
use Rattle.job.specs.Response.{first_at, response_with, job_response, job_resource, response, worst_job}
use Rattle.row.specs.Row.{judged, row_with, row_without, row_for}
use Rattle.job.specs.Sound.{SoundView, Counted}
use Rattle.job.proofs.FirstAtLaws.{by_first, first_at_below}
use Rattle.job.proofs.ActiveLaws.{held_at_most}
use Rattle.job.proofs.JobEndLaws.{released_before_job_end}
use Rattle.row.proofs.LedLaws.{some_held, response_of_some}
use Rattle.job.proofs.ResponseLaws.{response_with_lem, resource_with}

-- The first place at which f is at its largest reaches it, and no place before does.
module _ (f : ℕ → ℕ) (n : ℕ) (some_there : 0 < n) where
  pub first_reaches : f (first_at f n) ≡ largest_to f n
  first_reaches =
      let r = first_largest_lem f n some_there in
      ap f (by_first f n r.0 r.1) ∙ eqb-true _ _ r.1.passes

  pub none_before_reaches : (k : ℕ) → k < first_at f n → f k < largest_to f n
  none_before_reaches k h =
      let r = first_largest_lem f n some_there in
      let u : k < r.0 = rw (by_first f n r.0 r.1) at h in
      ⊎_elim (λ (e : f k ≡ largest_to f n). absurd (eqb-false _ _ (r.1.before k (omega arith) u) e))
      (λ (q : f k < largest_to f n). q)
      (eq-or-lt_of_le (below_largest f n k (omega (arith, r.1.within))))

module _ (v : View) where
  -- R is at least every job's response, and the job that is named is the first that reaches it.
  pub covers_every_job : (n k : ℕ) → k < n → job_response v k ≤ response v n
  unfolding response
  covers_every_job n k h = below_largest (job_response v) n k h

  pub job_reaches : (n : ℕ) → 0 < n → job_response v (worst_job v n) ≡ response v n
  unfolding response worst_job
  job_reaches n h = first_reaches (job_response v) n h

  pub job_is_first : (n : ℕ) → 0 < n → (k : ℕ) → k < worst_job v n → job_response v k < response v n
  unfolding response worst_job
  job_is_first n h k u = none_before_reaches (job_response v) n h k u

  -- A job's response is at least that with every resource that counts.
  pub covers_every_resource : (k l : ℕ) → l < resources v → 0 < held v l → job_end v k l - k * v.period ≤ job_response v k
  covers_every_resource k l h u =
      let o : 0 < overrun v = omega (arith, held_at_most v l h) in
      omega (arith, below_largest (response_with v k) (resources v) l h, response_of_some v k l u, response_with_lem v k o)

  -- No number from 1 to the horizon solves step 7's equation where the active period is none.
  pub no_active_period : active_period v ≡ none → (x : ℕ) → 1 ≤ x → x ≤ horizon → x ≡ total v.periods v.costs (v.place + 1) v.blocking x → ⊥
  unfolding active_period
  no_active_period e = least_none v.periods v.costs (v.place + 1) v.blocking horizon e

  judged_is_some : (period r : ℕ) → judged period r ≡ None → ⊥
  unfolding judged
  judged_is_some period r = go (leb r period)
    where
      go : (b : Bool) → cond b (Fits r) (Late r) ≡ None → ⊥
      go true e = let z : ◌≡◌ {A = ℕ} 0 1 = cc in omega arith
      go false e = let z : ◌≡◌ {A = ℕ} 0 1 = cc in omega arith

  -- The outcome is none exactly where there is no active period.
  pub none_exactly : (failing : ℕ) → ((row_for v failing (active_period v)).outcome ≡ None) ↔ (active_period v ≡ none)
  unfolding row_for row_with row_without
  none_exactly failing = go (active_period v)
    where
      go : (o : Option ℕ) → ((row_for v failing o).outcome ≡ None) ↔ (o ≡ none)
      go none = (λ _. refl, λ _. refl)
      go (some active) = (λ e. absurd (judged_is_some _ _ e), λ e. let z : ◌≡◌ {A = ℕ} 0 1 = cc in absurd (omega arith))

  -- Then X and B stand, and L, jobs, job and resource are 0.
  pub row_of_none : (failing : ℕ) → active_period v ≡ none → row_for v failing (active_period v) ≡ record { holding = overrun v; failing = failing; blocking = v.blocking; active = 0; jobs = 0; job = 0; resource = 0; outcome = None }
  unfolding row_for row_without
  row_of_none failing e = rw e refl

-- The resource that is named for a job of the active period: it counts, the job has its response with it, and with no lower one.
pub record Names (v : View) (k l : ℕ) : Type 0 where
  pub named : job_resource v k ≡ suc l
  pub within : l < resources v
  pub counts : 0 < held v l
  pub reaches : job_end v k l ≡ job_response v k + k * v.period
  pub lowest : (j : ℕ) → j < l → response_with v k j < job_response v k

module _ (v : View) (sv : SoundView v) (k : ℕ) (ct : Counted v k) (o : 0 < overrun v) where
  some_counts : (i : ℕ) × (i < resources v) × (0 < held v i)
  unfolding overrun
  some_counts =
      ⊎_elim (λ (z : largest_to (held v) (resources v) ≡ 0). absurd (omega (arith, z)))
      (λ (r : (i : ℕ) × (i < resources v) × (held v i ≡ largest_to (held v) (resources v))). (r.0, r.1, omega (arith, r.2)))
      (largest_reached (held v) (resources v))

  pub resource_named : (l : ℕ) × Names v k l
  resource_named =
      let c = some_counts in
      let i = c.0 in
      let pos : 0 < resources v = omega (arith, c.1) in
      let f = response_with v k in
      let l = first_at f (resources v) in
      let top : f l ≡ largest_to f (resources v) = first_reaches f (resources v) pos in
      let whole : largest_to f (resources v) ≡ job_response v k = response_with_lem v k o in
      let some-response : 0 < f i = omega (arith, response_of_some v k i c.2, released_before_job_end v sv ct i c.1 c.2) in
      let there : l < resources v = first_at_below f (resources v) pos in
      let held-there : 0 < held v l = some_held v k l (omega (arith, below_largest f (resources v) i c.1)) in (
        l,
        record {
          named = sym (resource_with v k o);
          within = there;
          counts = held-there;
          reaches = omega (arith, response_of_some v k l held-there, released_before_job_end v sv ct l there held-there);
          lowest = λ j u. omega (arith, none_before_reaches f (resources v) pos j u);
        },
      )
