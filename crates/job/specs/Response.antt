-- Responses (step 11; source 002, equations 17, 19, 21 and 22): of a job with a resource, of a job, and the largest, with the
-- first job and then the lowest resource that reach it. Assumes nothing.
use Rattle.std.specs.Prelude.{ℕ, suc, ◌-◌, ◌*◌, cond, ltb}
use Rattle.lists.specs.Range.{largest_to, first_largest}
use Rattle.outer.specs.Blocking.{number_or}
use Rattle.job.specs.View.{View, resources, held, overrun}
use Rattle.job.specs.Ends.{budget_end, job_end}

-- The first of 0, 1, …, n − 1 at which f is at its largest; 0 where the range is empty.
unfoldable pub first_at : (ℕ → ℕ) → ℕ → ℕ
first_at f n = number_or 0 (first_largest f n)

-- The response of job k with resource l, job end − k × P, where X(s, l) is above 0. Other resources do not count.
unfoldable pub response_with : View → ℕ → ℕ → ℕ
response_with v k l = cond (ltb 0 (held v l)) (job_end v k l - k * v.period) 0

-- The response of job k: the largest over the resources that count. Where none does, the job ends with its budget.
unfoldable pub job_response : View → ℕ → ℕ
job_response v k =
    cond (ltb 0 (overrun v)) (largest_to (response_with v k) (resources v)) (budget_end v k - k * v.period)

-- The lowest resource with which job k has that response, counted from 1; 0 where no resource counts.
unfoldable pub job_resource : View → ℕ → ℕ
job_resource v k = cond (ltb 0 (overrun v)) (suc (first_at (response_with v k) (resources v))) 0

-- R(s) over n jobs: the largest response.
unfoldable pub response : View → ℕ → ℕ
response v n = largest_to (job_response v) n

-- The first job that reaches it.
unfoldable pub worst_job : View → ℕ → ℕ
worst_job v n = first_at (job_response v) n
