-- What the searches rest on that go on from each other: for the first budget end, from nothing; for the next one, from the last;
-- for the active period, from the first budget end. And what the first and the last of these say. Assumes nothing.
use Prim.Native.Nat.{ℕ, ◌+◌, ◌-◌, ◌*◌, ◌^◌, ◌≤◌, ◌<◌}
use native.Mathlib.Nat.{zero-add, mul-le-mul_left, mul-le-mul_right}
use native.Mathlib.Omega.{arith}
use mathlib.Core.Path.{◌≡◌, refl, sym, ap, ap₂, ◌∙◌}
use mathlib.Core.List.{List}
use mathlib.Core.Option.{Option, none, some}
use lib.ListN.{length, get_or, set, replicate, length-set, length-replicate}
use Rattle.least.specs.Up.{up}
use Rattle.least.specs.Demand.{demand, total}
use Rattle.least.specs.Share.{unit, shares, standing_at}
use Rattle.least.specs.Search.{Stands, ComesDown, IsLeast, Starts}
use Rattle.search.specs.After.{Fit, EndsAt, afterwards, Waits, Frees, After, Found}
use Rattle.least.proofs.Up.{up_pos, up_is_tight}
use Rattle.least.proofs.Demand.{demand_suc, demand_at_none, total_mono}
use Rattle.least.proofs.Search.{stands_next}
use Rattle.least.proofs.ShareLaws.{standing_starts}
use Rattle.least.proofs.LeastLaws.{least_found, least_nowhere}
use Rattle.search.proofs.ClimbLaws.{fit_fewer, ends_at_none, ends_at_more, starts_nowhere}
use Rattle.table.specs.Limits.{most, horizon}
use Rattle.outer.specs.Blocking.{number_or}
use Rattle.job.specs.View.{View, cost}
use Rattle.job.specs.Ends.{active_period, ahead, budget_end}
use Rattle.job.specs.Sound.{SoundView, Counted, FirstEnd, Active}
use Rattle.job.proofs.ActiveLaws.{budget_at_most, period_pos, higher_loads, active_total, active_total_lem, active_within, some_job}
use Rattle.job.proofs.BudgetEndLaws.{budget_total, budget_total_lem, ahead_next, budget_floor, budget_end_is_least, budget_end_within, budget_comes_down, budget_found, stands_more}

-- What the first m of n loads leave free.
pub frees_fewer : {periods costs frees : List ℕ} {n : ℕ} (m : ℕ) → Frees periods costs frees n → m ≤ n → Frees periods costs frees m
frees_fewer m f h = record { with_free = omega (arith, f.with_free); is_free = λ t u. f.is_free t (omega arith) }

module _ (v : View) (sv : SoundView v) where
  pub higher_fit : Fit v.periods v.costs v.place
  higher_fit = fit_fewer v.place sv.fit (omega arith)

  -- From nothing: all is still to be waited for.
  pub all_ahead : (a : ℕ) → afterwards v.periods v.costs v.place 0 a ≡ a
  all_ahead a = omega (arith, demand_at_none v.periods v.costs v.place (higher_loads v sv))

  pub waits_from_none : (k : ℕ) {a : ℕ} → a ≡ ahead v k → a < 2 ^ 25 → Waits v.periods v.costs v.place 0 a
  waits_from_none k {a} e small =
      record {
        fit = higher_fit;
        few = omega (arith, sv.few);
        asked = omega (arith, demand_at_none v.periods v.costs v.place (higher_loads v sv));
        stands = rw (all_ahead a, zero-add a, e) (budget_floor v sv k);
        small = omega arith;
      }

  pub after_none : (k : ℕ) {a : ℕ} → a ≡ ahead v k → a < 2 ^ 25 → {frees : List ℕ} → Frees v.periods v.costs frees (v.place + 1) → After v.periods v.costs frees (replicate most 0) v.place 0 a 0
  after_none k {a} e small fr =
      record {
        waits = waits_from_none k e small;
        free = frees_fewer v.place fr (omega arith);
        with_end = rw length-replicate (omega (arith, sv.few));
        ends_at = ends_at_none v.periods v.costs v.place most higher_fit;
        starts = starts_nowhere _ _;
      }

  -- Job 0 waits for B + Q besides.
  pub first_ahead : v.blocking + v.budget ≡ ahead v 0
  unfolding ahead
  first_ahead = omega arith

  pub first_small : v.blocking + v.budget < 2 ^ 25
  first_small = omega (arith, sv.blocking_small, budget_at_most v, sv.fits, sv.period_small)

  -- From where one search has ended on with `more` ticks more: what is still waited for, and that a search may go on from there.
  module _ (a b more : ℕ) {end : ℕ} (e : b ≡ a + more) (i : IsLeast (total v.periods v.costs v.place a) end) where
    pub left_more : afterwards v.periods v.costs v.place end more ≡ b
    unfolding total
    left_more = omega (arith, e, i.solution)

    pub waits_more : end ≤ horizon → more ≤ cost v → Waits v.periods v.costs v.place end more
    unfolding total
    waits_more h small =
        record {
          fit = higher_fit;
          few = omega (arith, sv.few);
          asked = omega (arith, i.solution);
          stands = rw left_more (stands_more v sv a b more e i);
          small = omega (arith, h, small, sv.fits, sv.period_small);
        }

  -- From the end of job k's budget: what is still waited for is what job k + 1 waits for.
  module _ (k : ℕ) {end : ℕ} (i : IsLeast (budget_total v k) end) where
    pub left_after : afterwards v.periods v.costs v.place end (cost v) ≡ ahead v (k + 1)
    left_after = left_more (ahead v k) (ahead v (k + 1)) (cost v) (ahead_next v k) i

    pub waits_after : end ≤ horizon → Waits v.periods v.costs v.place end (cost v)
    waits_after h = waits_more (ahead v k) (ahead v (k + 1)) (cost v) (ahead_next v k) i h (omega arith)

  module _ {k : ℕ} (ct : Counted v k) where
    pub next_ahead : afterwards v.periods v.costs v.place (budget_end v k) (cost v) ≡ ahead v (k + 1)
    next_ahead = left_after k (budget_end_is_least v sv ct)

    pub waits_from_end : Waits v.periods v.costs v.place (budget_end v k) (cost v)
    waits_from_end = waits_after k (budget_end_is_least v sv ct) (omega (arith, budget_end_within v sv ct, active_within v sv ct.is_active))

  -- The same as the code has it: from `end`, with what its own load costs, and the ends of the periods begun by then.
  module _ {k : ℕ} (ct : Counted v k) {end : ℕ} (e : end ≡ budget_end v k) where
    abbrev own_cost : ℕ
    own_cost = get_or v.costs v.place 0

    same_ahead : afterwards v.periods v.costs v.place end own_cost ≡ ahead v (k + 1)
    same_ahead = rw (e, sv.own_cost) (next_ahead ct)

    pub next_after :
        {ends frees : List ℕ} {start : ℕ} → EndsAt v.periods ends v.place end → most ≤ length ends → Frees v.periods v.costs frees (v.place + 1) →
        Starts (total v.periods v.costs v.place (ahead v (k + 1))) (end + own_cost) start → After v.periods v.costs frees ends v.place end own_cost start
    next_after at room fr st =
        record {
          waits = rw (e, sv.own_cost) (waits_from_end ct);
          free = frees_fewer v.place fr (omega arith);
          with_end = omega (arith, room, sv.few);
          ends_at = at;
          starts = rw same_ahead st;
        }

    module _ (next : Counted v (k + 1)) where
      pub next_down : ComesDown (total v.periods v.costs v.place (afterwards v.periods v.costs v.place end own_cost))
      next_down = rw same_ahead (budget_comes_down v sv next)

      pub next_found : {z : ℕ} → IsLeast (total v.periods v.costs v.place (afterwards v.periods v.costs v.place end own_cost)) z → z ≡ budget_end v (k + 1)
      next_found i = budget_found v sv next (rw same_ahead at i)

  -- Where the search for a budget end may stand, by what the higher subsystems leave free of every tick: as the code computes it.
  pub starts_by_spare :
      (k : ℕ) {c spare start : ℕ} (x : ℕ) → c ≡ cost v → spare ≡ unit - shares v.periods v.costs v.place → 1 ≤ spare →
      start ≡ standing_at (v.blocking + k * c + v.budget) spare → Starts (total v.periods v.costs v.place (ahead v k)) x start
  unfolding ahead
  starts_by_spare k {c} {spare} {start} x e h from g =
      standing_starts v.periods v.costs v.place (v.blocking + k * cost v + v.budget) spare x start (higher_loads v sv) h from
      (g ∙ ap (λ (y : ℕ). standing_at (v.blocking + k * y + v.budget) spare) e)

  -- What the search for the first budget end says.
  module _ {ends : List ℕ} {r : ℕ} (g : Found v.periods v.costs ends v.place (afterwards v.periods v.costs v.place 0 (v.blocking + v.budget)) horizon r) where
    f : Found v.periods v.costs ends v.place (ahead v 0) horizon r
    f = rw (all_ahead (v.blocking + v.budget), first_ahead) at g

    pub first_end : most ≤ length ends → r ≤ horizon → FirstEnd v ends r
    first_end room h = record { is_least = f.at h; within = h; with_end = room; ends_at = f.ends_at h }

    -- Beyond the horizon there is no active period: it would have a first job.
    pub first_beyond : horizon < r → active_period v ≡ none
    first_beyond h = either (active_period v) refl
      where
        either : (o : Option ℕ) → active_period v ≡ o → active_period v ≡ none
        either none e = e
        either (some active) e =
            let ct : Counted v 0 = record { active = active; is_active = e; among = some_job v sv e } in
            let i = budget_end_is_least v sv ct in
            absurd (omega (arith, f.beyond h (budget_end v 0) i.from i.solution, budget_end_within v sv ct, active_within v sv e))

  -- What the search for the active period says.
  pub active_found : {after : List ℕ} {r : ℕ} → Found v.periods v.costs after (v.place + 1) v.blocking horizon r → Active v r
  unfolding active_period
  active_found {after} {r} f =
      record {
        at = λ h. least_found v.periods v.costs (v.place + 1) v.blocking horizon (f.at h) h;
        beyond = λ h. least_nowhere v.periods v.costs (v.place + 1) v.blocking horizon (f.beyond h);
      }

  -- The first budget end is F(0).
  pub first_is : {ends : List ℕ} {first : ℕ} → FirstEnd v ends first → first ≡ budget_end v 0
  unfolding budget_end
  first_is e = sym (ap (number_or 0) (least_found v.periods v.costs v.place (ahead v 0) horizon e.is_least e.within))

  module _ {ends : List ℕ} {first : ℕ} (e : FirstEnd v ends first) where
    -- By then the subsystem itself has asked for `own` of its budgets and holding times.
    abbrev own : ℕ
    own = up first v.period * cost v

    pub own_holds : v.budget ≤ own
    own_holds =
        let one : 1 * cost v ≤ own = mul-le-mul_right (cost v) (up_pos first v.period (period_pos v sv) e.is_least.from) in
        omega (arith, one, budget_at_most v)

    first_parts : first ≡ v.blocking + v.budget + demand v.periods v.costs v.place first
    unfolding ahead
    first_parts = omega (arith, e.is_least.solution, budget_total_lem v 0 first)

    active_asked : demand v.periods v.costs (v.place + 1) first ≡ demand v.periods v.costs v.place first + own
    active_asked =
        demand_suc v.periods v.costs v.place first ∙
        ap (λ (x : ℕ). demand v.periods v.costs v.place first + x) (ap₂ (λ (p c : ℕ). up first p * c) sv.own_period sv.own_cost)

    -- Going on from it for the active period, only what blocks is left.
    pub blocking_left : afterwards v.periods v.costs (v.place + 1) first (own - v.budget) ≡ v.blocking
    blocking_left = omega (arith, active_asked, first_parts, own_holds)

    before_first : (y : ℕ) → 1 ≤ y → y < first → y < active_total v y
    unfolding ahead
    before_first y l u =
        let one : 1 * cost v ≤ up y v.period * cost v = mul-le-mul_right (cost v) (up_pos y v.period (period_pos v sv) l) in
        omega (arith, e.is_least.before y l u, budget_total_lem v 0 y, active_total_lem v sv y, one, budget_at_most v)

    active_stands : Stands (active_total v) (first + (own - v.budget))
    active_stands =
        let there : active_total v first ≡ first + (own - v.budget) = omega (arith, active_total_lem v sv first, first_parts, own_holds) in
        rw (← there)
        (stands_next (active_total v) (total_mono v.periods v.costs (v.place + 1) v.blocking sv.fit.loads)
        (record { from = e.is_least.from; rises = omega (arith, there, own_holds); before = before_first }))

    -- That fits the machine's numbers.
    pub own_small : own ≤ first + v.period
    own_small =
        let fits : own ≤ up first v.period * v.period = mul-le-mul_left (up first v.period) sv.fits in
        omega (arith, fits, up_is_tight first v.period (period_pos v sv))

    pub active_waits : Waits v.periods v.costs (v.place + 1) first (own - v.budget)
    active_waits =
        record {
          fit = sv.fit;
          few = omega (arith, sv.few);
          asked = omega (arith, active_asked, first_parts, own_holds);
          stands = rw blocking_left active_stands;
          small = omega (arith, own_small, own_holds, e.within, sv.period_small, sv.budget_pos);
        }

    pub active_after :
        {frees : List ℕ} {start : ℕ} → Frees v.periods v.costs frees (v.place + 1) → Starts (active_total v) (first + (own - v.budget)) start →
        After v.periods v.costs frees (set ends v.place (up first v.period * v.period)) (v.place + 1) first (own - v.budget) start
    active_after fr st =
        record {
          waits = active_waits;
          free = fr;
          starts = rw blocking_left st;
          with_end = rw length-set (omega (arith, e.with_end, sv.few));
          ends_at =
              ends_at_more v.periods ends v.place first (up first v.period * v.period) (omega (arith, e.with_end, sv.few)) e.ends_at
              (ap (λ (p : ℕ). up first p * p) (sym sv.own_period));
        }
