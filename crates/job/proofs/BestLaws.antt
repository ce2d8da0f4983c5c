-- The steps of a running best: of the resources of a job, and of the jobs of an active period. Assumes nothing.
use Prim.Native.Nat.{ℕ, ◌+◌, ◌≤◌, ◌<◌}
use native.Mathlib.Omega.{arith}
use mathlib.Core.Path.{◌≡◌, refl, sym, ap, ap₂, ◌∙◌}
use mathlib.Core.Bool.{cond}
use mathlib.Core.Logic.{⊎_elim}
use lib.Dec.{ltb}
use borrow.Author.Tests.{lt-ltb, le-ltb}
use Rattle.lists.specs.Range.{largest_to}
use Rattle.lists.proofs.Over.{le_or_lt, largest_to_zero}
use Rattle.lists.proofs.Largest.{largest_new, largest_old}
use Rattle.job.specs.declared.Best.{Best}
use Rattle.job.specs.declared.Job.{Job}
use Rattle.job.specs.declared.Worst.{Worst}
use Rattle.job.specs.View.{View}
use Rattle.job.specs.Response.{first_at, job_response, job_resource, response, worst_job}
use Rattle.job.specs.Computed.{best_of, job_of, worst_of}
use Rattle.job.proofs.FirstAtLaws.{first_at_new, first_at_old, first_at_empty}

-- Nothing is best of nothing.
pub best_none : (f : ℕ → ℕ) → record { value = 0; at = 0 } ≡ best_of f 0
unfolding best_of
best_none f = λ i. record { value = sym (largest_to_zero f) i; at = sym (first_at_empty f) i }

best_new : (f : ℕ → ℕ) (n : ℕ) → largest_to f n < f n → record { value = f n; at = n } ≡ best_of f (n + 1)
unfolding best_of
best_new f n h = λ i. record { value = sym (largest_new f n h) i; at = sym (first_at_new f n h) i }

best_old : (f : ℕ → ℕ) (n : ℕ) → f n ≤ largest_to f n → best_of f n ≡ best_of f (n + 1)
unfolding best_of
best_old f n h = λ i. record { value = sym (largest_old f n h) i; at = sym (first_at_old f n h) i }

-- The better of the best so far and the next value is the best of one more.
pub best_step : (f : ℕ → ℕ) (n : ℕ) {b r : Best} {x : ℕ} → b ≡ best_of f n → x ≡ f n → r ≡ cond (ltb b.value x) (record { value = x; at = n }) b → r ≡ best_of f (n + 1)
unfolding best_of
best_step f n {b} {r} {x} e q h =
    h ∙ ap₂ (λ (c : Best) (y : ℕ). cond (ltb c.value y) (record { value = y; at = n }) c) e q ∙
    ⊎_elim (λ (u : f n ≤ largest_to f n). rw (le-ltb _ _ u) (best_old f n u))
    (λ (u : largest_to f n < f n). rw (lt-ltb _ _ u) (best_new f n u))
    (le_or_lt (f n) (largest_to f n))

-- A value of 0 changes nothing.
pub best_stays : (f : ℕ → ℕ) (n : ℕ) {b : Best} → b ≡ best_of f n → f n ≡ 0 → b ≡ best_of f (n + 1)
best_stays f n {b} e q = best_step f n {x = 0} e (sym q) (rw (le-ltb b.value 0 (omega arith)) refl)

module _ (v : View) where
  -- The first job is the worst of itself.
  pub worst_first : {j : Job} → j ≡ job_of v 0 → record { response = j.response; job = 0; resource = j.resource } ≡ worst_of v 1
  unfolding job_of worst_of response worst_job
  worst_first {j} e =
      ap (λ (i : Job). record { response = i.response; job = 0; resource = i.resource }) e ∙
      (λ i. record { response = sym first_response i; job = sym first_job i; resource = job_resource v (sym first_job i) })
    where
      first_job : first_at (job_response v) 1 ≡ 0
      first_job =
          ⊎_elim (λ (u : job_response v 0 ≤ largest_to (job_response v) 0). first_at_old (job_response v) 0 u ∙ first_at_empty (job_response v))
          (λ (u : largest_to (job_response v) 0 < job_response v 0). first_at_new (job_response v) 0 u)
          (le_or_lt (job_response v 0) (largest_to (job_response v) 0))

      first_response : largest_to (job_response v) 1 ≡ job_response v 0
      first_response =
          ⊎_elim
          (λ (u : job_response v 0 ≤ largest_to (job_response v) 0).
          omega (arith, largest_old (job_response v) 0 u, largest_to_zero (job_response v)))
          (λ (u : largest_to (job_response v) 0 < job_response v 0). largest_new (job_response v) 0 u)
          (le_or_lt (job_response v 0) (largest_to (job_response v) 0))

  worst_new : (n : ℕ) → largest_to (job_response v) n < job_response v n → record { response = job_response v n; job = n; resource = job_resource v n } ≡ worst_of v (n + 1)
  unfolding worst_of response worst_job
  worst_new n h =
      λ i.
      record {
        response = sym (largest_new (job_response v) n h) i;
        job = sym (first_at_new (job_response v) n h) i;
        resource = job_resource v (sym (first_at_new (job_response v) n h) i);
      }

  pub worst_stays : (n : ℕ) → job_response v n ≤ largest_to (job_response v) n → worst_of v n ≡ worst_of v (n + 1)
  unfolding worst_of response worst_job
  worst_stays n h =
      λ i.
      record {
        response = sym (largest_old (job_response v) n h) i;
        job = sym (first_at_old (job_response v) n h) i;
        resource = job_resource v (sym (first_at_old (job_response v) n h) i);
      }

  -- The worse of the worst so far and the next job is the worst of one more.
  pub worst_step : (n : ℕ) {w r : Worst} {j : Job} → w ≡ worst_of v n → j ≡ job_of v n → r ≡ cond (ltb w.response j.response) (record { response = j.response; job = n; resource = j.resource }) w → r ≡ worst_of v (n + 1)
  unfolding job_of worst_of response
  worst_step n {w} {r} {j} e q h =
      h ∙
      ap₂ (λ (c : Worst) (i : Job). cond (ltb c.response i.response) (record { response = i.response; job = n; resource = i.resource }) c) e q ∙
      ⊎_elim (λ (u : job_response v n ≤ largest_to (job_response v) n). rw (le-ltb _ _ u) (worst_stays n u))
      (λ (u : largest_to (job_response v) n < job_response v n). rw (lt-ltb _ _ u) (worst_new n u))
      (le_or_lt (job_response v n) (largest_to (job_response v) n))
