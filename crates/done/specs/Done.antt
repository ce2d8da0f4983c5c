-- Jobs that end when they are done: what there is to do with job k, where job 0 is done, and what the responses are then. An aid of
-- the code: the rows that it serves are those of Row.antt. Assumes nothing.
use Rattle.std.specs.Prelude.{ℕ, ◌+◌, ◌-◌, ◌*◌, ◌≤◌, ◌<◌, ◌≡◌, List, length, get_or}
use Rattle.least.specs.Demand.{total}
use Rattle.least.specs.Search.{IsLeast}
use Rattle.search.specs.After.{EndsAt}
use Rattle.table.specs.Limits.{most, horizon}
use Rattle.job.specs.View.{View, cost}
use Rattle.job.specs.Response.{job_response, job_resource}

-- With job k and all before it: B(s) + (k + 1) × (Q + X), besides higher subsystems.
unfoldable pub done : View → ℕ → ℕ
done v k = v.blocking + (k + 1) * cost v

-- What the tick at which all that is done is the least solution of.
abbrev pub done_total : View → ℕ → ℕ → ℕ
done_total v k = total v.periods v.costs v.place (done v k)

-- Job 0 is done at `first`, within the horizon, with the ends of the higher subsystems' periods begun by then.
pub record FirstDone (v : View) (ends : List ℕ) (first : ℕ) : Type 0 where
  pub is_least : IsLeast (done_total v 0) first
  pub within : first ≤ horizon
  pub with_end : most ≤ length ends
  pub ends_at : EndsAt v.periods ends v.place first

-- Jobs end when they are done, and all with the same resource.
abbrev pub EndsDone : View → ℕ → Type 0
EndsDone v resource =
    (k end : ℕ) → IsLeast (done_total v k) end → end ≤ horizon → k * v.period < end →
    (end - k * v.period ≡ job_response v k) × (resource ≡ job_resource v k)

-- Resource l alone is held, and shuts no higher subsystem out.
pub record Alone (holdings ceilings : List ℕ) (place l : ℕ) : Type 0 where
  pub within : l < length holdings
  pub is_held : 0 < get_or holdings l 0
  pub shuts_none : get_or ceilings l 0 ≡ place
  pub others : (t : ℕ) → t < length holdings → (t ≡ l → ⊥) → get_or holdings t 0 ≡ 0
