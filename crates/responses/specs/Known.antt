-- What is known of the jobs of an active period while they are gone through: how many there are, where one's budget has ended, and by when
-- one has ended whose end was not looked for. Assumes nothing.
use Rattle.std.specs.Prelude.{ℕ, ◌-◌, ◌≤◌, ◌<◌, ◌≡◌, Bool, true, ◌⊎◌, List, length, get_or}
use Rattle.std.proofs.Math.Option.{some}
use Rattle.search.specs.After.{EndsAt}
use Rattle.table.specs.Limits.{most}
use Rattle.job.specs.View.{View}
use Rattle.job.specs.Ends.{active_period, jobs, budget_end}

-- n is the number of jobs of the active period.
pub record Jobs (v : View) (active n : ℕ) : Type 0 where
  pub is_active : active_period v ≡ some active
  pub all : n ≡ jobs v active

-- The budget of job k ends at `end`, and the higher subsystems' periods begun by then at `ends`.
pub record Ended (v : View) (k end : ℕ) (ends : List ℕ) : Type 0 where
  pub is_end : end ≡ budget_end v k
  pub with_end : most ≤ length ends
  pub ends_at : EndsAt v.periods ends v.place end

-- A job has ended by then: by `sure` already, because no higher subsystem comes between (`plain`) or none has a period that begins before
-- that; or else because the next one's budget ends at `next`, and the job Q ticks before, or earlier.
abbrev pub EndedBy : (place budget : ℕ) → Bool → (sure next : ℕ) → List ℕ → (by : ℕ) → Type 0
EndedBy place budget plain sure next ends by =
    (((plain ≡ true) ⊎ ((t : ℕ) → t < place → sure ≤ get_or ends t 0)) × (sure ≤ by)) ⊎ (next - budget ≤ by)

-- Every resource that is held has the highest ceiling: no higher subsystem comes between once the budget has ended.
abbrev pub Plain : List ℕ → List ℕ → Type 0
Plain holdings ceilings = (l : ℕ) → l < length holdings → 0 < get_or holdings l 0 → get_or ceilings l 0 ≡ 0
