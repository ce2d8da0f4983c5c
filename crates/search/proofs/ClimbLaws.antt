-- Laws of a search that keeps for each load how often it has asked: never more often than by any solution, so what there is to do
-- is never more than a solution; and once every load is ahead, that is the least solution. Assumes nothing.
use Prim.Native.Nat.{ℕ, zero, suc, ◌+◌, ◌-◌, ◌*◌, ◌^◌, ◌≤◌, ◌<◌}
use native.Mathlib.Nat.{zero-mul, add-mul, mul-le-mul_right, eq-or-lt_of_le}
use native.Mathlib.Numerals.{add-one}
use native.Mathlib.Omega.{arith}
use mathlib.Core.Path.{◌≡◌, refl, sym, ap, ◌∙◌}
use mathlib.Core.Bool.{cond}
use mathlib.Core.List.{List}
use mathlib.Core.Logic.{◌⊎◌, inl, inr, ⊎_elim}
use borrow.Author.Tests.{eq-eqb, ne_eqb}
use borrow.Author.Rules.{read_below, read_above}
use lib.Dec.{eqb}
use lib.ListN.{length, get_or, set, replicate}
use lib.Seq.{get_or-set_same}
use Rattle.lists.specs.Range.{sum_to}
use Rattle.lists.proofs.Over.{le_or_lt, sum_to_suc, sum_to_ext, sum_to_mono}
use Rattle.least.specs.Up.{up}
use Rattle.least.specs.Demand.{load_in, demand, total}
use Rattle.least.specs.Search.{ComesDown, IsLeast, reach, Starts}
use Rattle.search.specs.After.{Fit, Periods, EndsAt, afterwards, Frees, After, Bounded, Found, Ahead, Within, Behind, CaughtUp, Advanced}
use Rattle.least.proofs.Up.{up_holds, up_is_least, up_mono, up_zero}
use Rattle.least.proofs.Demand.{total_mono, loads_fewer}
use Rattle.least.proofs.Search.{stands_below, least_exists}

-- A sum of which one part is more by d.
sum_more : (f g : ℕ → ℕ) (n t d : ℕ) → t < n → g t ≡ f t + d → ((j : ℕ) → j < n → (j ≡ t → ⊥) → g j ≡ f j) → sum_to g n ≡ sum_to f n + d
sum_more f g zero t d h e same = absurd (omega arith)
sum_more f g (suc n) t d h e same =
    rw (← add-one n)
    (⊎_elim
    (λ (q : t ≡ n).
    let before : sum_to g n ≡ sum_to f n = sum_to_ext g f n (λ j u. same j (omega arith) (λ (k : j ≡ t). omega arith)) in
    omega (arith, e, sum_to_suc f n, sum_to_suc g n, before, ap g q, ap f q))
    (λ (u : t < n).
    let last : g n ≡ f n = same n (omega arith) (λ (k : n ≡ t). omega arith) in
    omega (arith, sum_to_suc f n, sum_to_suc g n, sum_more f g n t d u e (λ j v. same j (omega arith)), last))
    (eq-or-lt_of_le (omega arith)))

-- Counts of which that at t is more by q.
raised : (ℕ → ℕ) → ℕ → ℕ → ℕ → ℕ
raised count t q j = cond (eqb j t) (count j + q) (count j)

module _ (count : ℕ → ℕ) (t q : ℕ) where
  raised_at : raised count t q t ≡ count t + q
  unfolding raised
  raised_at = rw (eq-eqb t t refl) refl

  raised_off : (j : ℕ) → (j ≡ t → ⊥) → raised count t q j ≡ count j
  unfolding raised
  raised_off j h = rw (ne_eqb j t h) refl

-- The first m of n loads fit too, and so do their periods.
pub fit_fewer : {periods costs : List ℕ} {n : ℕ} (m : ℕ) → Fit periods costs n → m ≤ n → Fit periods costs m
fit_fewer m f h =
    record {
      loads = loads_fewer m f.loads h;
      cost_pos = λ t u. f.cost_pos t (omega arith);
      cost_fits = λ t u. f.cost_fits t (omega arith);
      period_small = λ t u. f.period_small t (omega arith);
    }

pub fit_periods : {periods costs : List ℕ} {n : ℕ} → Fit periods costs n → Periods periods n
fit_periods f = record { with_period = f.loads.with_period; period_pos = f.loads.period_pos; period_small = f.period_small }

-- A list of zeros has 0 everywhere.
zeros : (m t : ℕ) → ◌≡◌ {A = ℕ} (get_or (replicate m 0) t 0) 0
zeros zero t = refl
zeros (suc m) zero = refl
zeros (suc m) (suc t) = zeros m t

-- Where nothing has passed, no period has begun.
pub ends_at_none : (periods costs : List ℕ) (n m : ℕ) → Fit periods costs n → EndsAt periods (replicate m 0) n 0
ends_at_none periods costs n m f t u =
    zeros m t ∙ sym (ap (λ (k : ℕ). k * get_or periods t 0) (up_zero (get_or periods t 0) (f.loads.period_pos t u)) ∙ zero-mul (get_or periods t 0))

-- One load more, whose last period ends where it should.
pub ends_at_more : (periods ends : List ℕ) (n y e : ℕ) → n < length ends → EndsAt periods ends n y → e ≡ up y (get_or periods n 0) * get_or periods n 0 → EndsAt periods (set ends n e) (n + 1) y
ends_at_more periods ends n y e room h q t u =
    ⊎_elim (λ (k : n ≤ t). let same : t ≡ n = omega arith in rw same (get_or-set_same ends n e 0 room ∙ q))
    (λ (k : t < n). read_below ℕ ends n t e 0 (get_or ends t 0) k refl ∙ h t k)
    (le_or_lt n t)

-- x is what there is to do once load t has asked count t times, which is no more often than it asks by any solution.
pub record Climbing (periods costs ends : List ℕ) (n constant x : ℕ) : Type 0 where
  pub count : ℕ → ℕ
  pub from : 1 ≤ x
  pub whole : (t : ℕ) → t < n → get_or ends t 0 ≡ count t * get_or periods t 0
  pub sum : x ≡ constant + sum_to (λ t. count t * get_or costs t 0) n
  pub below : (z : ℕ) → 1 ≤ z → z ≡ total periods costs n constant z → (t : ℕ) → t < n → count t ≤ up z (get_or periods t 0)

-- The loads from a to b are ahead of x.
abbrev pub Quiet : List ℕ → ℕ → ℕ → ℕ → Type 0
Quiet ends x a b = (t : ℕ) → a ≤ t → t < b → x ≤ get_or ends t 0

-- Without a number to start at, a search has none that it may stand at.
pub starts_nowhere : (f : ℕ → ℕ) (x : ℕ) → Starts f x 0
starts_nowhere f x = record { stands = λ h. absurd (omega arith); within = omega arith }

-- Each load has asked as often as it does by y, and no solution is before y.
climbs_at : (periods costs ends : List ℕ) (n constant y x : ℕ) → Fit periods costs n → EndsAt periods ends n y → 1 ≤ x → x ≡ total periods costs n constant y → ((z : ℕ) → 1 ≤ z → z ≡ total periods costs n constant z → y ≤ z) → Climbing periods costs ends n constant x
unfolding total demand load_in
climbs_at periods costs ends n constant y x f ends_at from sum later =
    record {
      count = λ t. up y (get_or periods t 0);
      from = from;
      whole = ends_at;
      sum = sum;
      below = λ z h e t u. up_mono (get_or periods t 0) (f.loads.period_pos t u) (later z h e);
    }

module _ (periods costs frees ends : List ℕ) (n y more start : ℕ) (a : After periods costs frees ends n y more start) where
  by_y : y + more ≡ total periods costs n (afterwards periods costs n y more) y
  unfolding total
  by_y = omega (arith, a.waits.asked)

  -- The search begins where each load has asked as often as it does by y.
  pub climbs_from : Climbing periods costs ends n (afterwards periods costs n y more) (y + more)
  climbs_from =
      climbs_at periods costs ends n (afterwards periods costs n y more) y (y + more) a.waits.fit a.ends_at a.waits.stands.from by_y
      (λ z h e. omega (arith, stands_below (total periods costs n (afterwards periods costs n y more)) a.waits.stands h (omega (arith, e))))

  -- Or, further on, where each has asked as often as it does by `start`.
  pub climbs_start : {after : List ℕ} {r : ℕ} → Advanced periods costs ends n (y + more) start after r → y + more < start → Climbing periods costs after n (afterwards periods costs n y more) r
  climbs_start {after} {r} g u =
      let s = a.starts.stands u in
      let sum : r ≡ total periods costs n (afterwards periods costs n y more) start = g.to_do y (afterwards periods costs n y more) (omega arith) a.ends_at by_y in
      climbs_at periods costs after n (afterwards periods costs n y more) start r a.waits.fit (g.ends_at y (omega arith) a.ends_at) (omega (arith, sum, s.from, s.rises)) sum
      (λ z h e. stands_below (total periods costs n (afterwards periods costs n y more)) s h (omega (arith, e)))

  -- The total begins above 0.
  pub total_starts : 1 ≤ total periods costs n (afterwards periods costs n y more) 1
  total_starts =
      ⊎_elim (λ (h : y + more ≤ 1). one (omega (arith, a.waits.stands.from)))
      (λ (h : 1 < y + more). omega (arith, a.waits.stands.before 1 (omega arith) h))
      (le_or_lt (y + more) 1)
    where
      one : y + more ≡ 1 → 1 ≤ total periods costs n (afterwards periods costs n y more) 1
      one e = omega (arith, a.waits.stands.rises, ap (total periods costs n (afterwards periods costs n y more)) e)

  -- Where the total comes down within reach, what a search up to there or further finds is within its bound.
  pub within_bound : ComesDown (total periods costs n (afterwards periods costs n y more)) → {after : List ℕ} {bound r : ℕ} → reach - 1 ≤ bound → Found periods costs after n (afterwards periods costs n y more) bound r → r ≤ bound
  within_bound d {after} {bound} {r} u g =
      let (z, below, least) = least_exists (total periods costs n (afterwards periods costs n y more)) (total_mono periods costs n (afterwards periods costs n y more) a.waits.fit.loads) total_starts d.top d.from d.down in
      ⊎_elim (λ (h : r ≤ bound). h)
      (λ (h : bound < r). absurd (omega (arith, g.beyond h z least.from least.solution, below, d.within)))
      (le_or_lt r bound)

module _ (periods costs ends : List ℕ) (n constant x : ℕ) (f : Fit periods costs n) (c : Climbing periods costs ends n constant x) where
  asked_by : (z : ℕ) → sum_to (λ (t : ℕ). up z (get_or periods t 0) * get_or costs t 0) n + constant ≡ total periods costs n constant z
  unfolding total demand load_in
  asked_by z = omega arith

  -- What there is to do is no more than a solution.
  pub at_most_solution : (z : ℕ) → 1 ≤ z → z ≡ total periods costs n constant z → x ≤ z
  at_most_solution z h e =
      omega (
        arith,
        c.sum,
        sum_to_mono (λ (t : ℕ). c.count t * get_or costs t 0) (λ (t : ℕ). up z (get_or periods t 0) * get_or costs t 0) n
            (λ t u. mul-le-mul_right (get_or costs t 0) (c.below z h e t u)),
        asked_by z,
        e,
      )

  -- It is within reach where it is within the bound.
  pub climb_small : (bound : ℕ) → 1 ≤ total periods costs n constant 1 → Bounded (total periods costs n constant) bound → x ≤ bound → x < reach
  climb_small bound one (inl h) u = omega arith
  climb_small bound one (inr d) u =
      let (z, below, least) = least_exists (total periods costs n constant) (total_mono periods costs n constant f.loads) one d.top d.from d.down in
      omega (arith, at_most_solution z least.from least.solution, below, d.within)

  module _ (t : ℕ) (u : t < n) where
    -- With q more of load t.
    with_more : (q : ℕ) → sum_to (λ (j : ℕ). raised c.count t q j * get_or costs j 0) n ≡ sum_to (λ (j : ℕ). c.count j * get_or costs j 0) n + q * get_or costs t 0
    with_more q =
        sum_more (λ (j : ℕ). c.count j * get_or costs j 0) (λ (j : ℕ). raised c.count t q j * get_or costs j 0) n t (q * get_or costs t 0) u
        (ap (λ (k : ℕ). k * get_or costs t 0) (raised_at c.count t q) ∙ add-mul (c.count t) q (get_or costs t 0))
        (λ j v k. ap (λ (i : ℕ). i * get_or costs j 0) (raised_off c.count t q j k))

    -- Raised by no more than a solution asks for, the counts are still below it.
    still_below : (q z : ℕ) → 1 ≤ z → z ≡ total periods costs n constant z → c.count t + q ≤ up z (get_or periods t 0) → (j : ℕ) → j < n → raised c.count t q j ≤ up z (get_or periods j 0)
    still_below q z h e k j v = go (le_or_lt j t) (le_or_lt t j)
      where
        off : (j ≡ t → ⊥) → raised c.count t q j ≤ up z (get_or periods j 0)
        off w = omega (arith, raised_off c.count t q j w, c.below z h e j v)

        go : (j ≤ t) ⊎ (t < j) → (t ≤ j) ⊎ (j < t) → raised c.count t q j ≤ up z (get_or periods j 0)
        go (inr w) r = off (λ (p : j ≡ t). omega arith)
        go (inl w) (inr r) = off (λ (p : j ≡ t). omega arith)
        go (inl w) (inl r) =
            let same : j ≡ t = omega arith in
            rw same (omega (arith, raised_at c.count t q, k))

    -- By a solution, load t has caught up, and that is no more than the solution.
    module _ (z : ℕ) (h : 1 ≤ z) (e : z ≡ total periods costs n constant z) where
      abbrev left : ℕ
      left = up z (get_or periods t 0) - c.count t

      all_asked : c.count t + left ≡ up z (get_or periods t 0)
      all_asked = omega (arith, c.below z h e t u)

      pub left_within : x + left * get_or costs t 0 ≤ z
      left_within =
          omega (
            arith,
            c.sum,
            with_more left,
            sum_to_mono (λ (j : ℕ). raised c.count t left j * get_or costs j 0) (λ (j : ℕ). up z (get_or periods j 0) * get_or costs j 0) n
                (λ j v. mul-le-mul_right (get_or costs j 0) (still_below left z h e (omega (arith, all_asked)) j v)),
            asked_by z,
            e,
          )

      pub left_ahead : Ahead (get_or ends t 0) x (get_or periods t 0) (get_or costs t 0) left
      left_ahead =
          omega (
            arith,
            left_within,
            c.whole t u,
            up_holds z (get_or periods t 0) (f.loads.period_pos t u),
            ap (λ (k : ℕ). k * get_or periods t 0) all_asked,
            add-mul (c.count t) left (get_or periods t 0),
          )

    -- Where a solution is within reach, so is what there is to do once load t has caught up.
    pub caught_within : (bound : ℕ) → 1 ≤ total periods costs n constant 1 → Bounded (total periods costs n constant) bound → Within bound (get_or ends t 0) x (get_or periods t 0) (get_or costs t 0)
    caught_within bound one (inl h) = inl h
    caught_within bound one (inr d) =
        let (z, below, least) = least_exists (total periods costs n constant) (total_mono periods costs n constant f.loads) one d.top d.from d.down in
        inr (left z least.from least.solution, left_ahead z least.from least.solution, omega (arith, left_within z least.from least.solution, below, d.within))

    -- Where its last period has ended before x, load t has fallen behind.
    pub falls_behind : {frees : List ℕ} (bound : ℕ) → Frees periods costs frees n → get_or ends t 0 < x → x < 2 ^ 25 → 1 ≤ total periods costs n constant 1 → Bounded (total periods costs n constant) bound → Behind (get_or ends t 0) x (get_or periods t 0) (get_or costs t 0) (get_or frees t 0) bound
    falls_behind bound g late small one bounded =
        record {
          late = late;
          small = small;
          within = caught_within bound one bounded;
          cost_pos = f.cost_pos t u;
          parts = g.is_free t u;
          period_small = f.period_small t u;
        }

    module _ (bound : ℕ) (after : List ℕ) (r : ℕ) (g : CaughtUp ends t x (get_or periods t 0) (get_or costs t 0) bound after r) where
      -- Where catching up is too much, every solution is.
      pub no_solution : bound < r → Found periods costs after n constant bound r
      no_solution b =
          record {
            at = λ h. absurd (omega arith);
            ends_at = λ h. absurd (omega arith);
            beyond = λ _ z h e. omega (arith, g.too_much b (left z h e) (left_ahead z h e), left_within z h e);
          }

      -- Else the search goes on with that load ahead.
      pub climbs_on : t < length ends → r ≤ bound → Climbing periods costs after n constant r
      climbs_on room b =
          let (q, er, ex, ahead, least) = g.least b in
          record {
            count = raised c.count t q;
            from = omega (arith, ex, c.from);
            whole = λ j v. ap (λ (l : List ℕ). get_or l j 0) er ∙ whole_on q (get_or ends t 0 + q * get_or periods t 0) refl j v;
            sum = omega (arith, ex, c.sum, with_more q);
            below = λ z h e. still_below q z h e (omega (arith, least (left z h e) (left_ahead z h e), all_asked z h e));
          }
        where
          whole_on : (q k : ℕ) → k ≡ get_or ends t 0 + q * get_or periods t 0 → (j : ℕ) → j < n → get_or (set ends t k) j 0 ≡ raised c.count t q j * get_or periods j 0
          whole_on q k er j v = go (le_or_lt j t) (le_or_lt t j)
            where
              times : raised c.count t q t * get_or periods t 0 ≡ c.count t * get_or periods t 0 + q * get_or periods t 0
              times = ap (λ (i : ℕ). i * get_or periods t 0) (raised_at c.count t q) ∙ add-mul (c.count t) q (get_or periods t 0)

              off : (j ≡ t → ⊥) → get_or (set ends t k) j 0 ≡ get_or ends j 0 → get_or (set ends t k) j 0 ≡ raised c.count t q j * get_or periods j 0
              off w i = i ∙ c.whole j v ∙ sym (ap (λ (m : ℕ). m * get_or periods j 0) (raised_off c.count t q j w))

              go : (j ≤ t) ⊎ (t < j) → (t ≤ j) ⊎ (j < t) → get_or (set ends t k) j 0 ≡ raised c.count t q j * get_or periods j 0
              go (inr w) i = off (λ (p : j ≡ t). omega arith) (read_above ℕ ends t j k 0 (get_or ends j 0) w refl)
              go (inl w) (inr i) = off (λ (p : j ≡ t). omega arith) (read_below ℕ ends t j k 0 (get_or ends j 0) i refl)
              go (inl w) (inl i) =
                  let same : j ≡ t = omega arith in
                  rw same (get_or-set_same ends t k 0 room ∙ er ∙ ap (λ (m : ℕ). m + q * get_or periods t 0) (c.whole t u) ∙ sym times)

      -- What there is to do has grown.
      pub grows : get_or ends t 0 < x → r ≤ bound → x < r
      grows late b =
          let (q, er, ex, ahead, least) = g.least b in
          let some : 1 * get_or costs t 0 ≤ q * get_or costs t 0 = mul-le-mul_right (get_or costs t 0) (at_once q ahead) in
          omega (arith, ex, some, f.cost_pos t u)
        where
          at_once : (q : ℕ) → Ahead (get_or ends t 0) x (get_or periods t 0) (get_or costs t 0) q → 1 ≤ q
          at_once q ahead =
              ⊎_elim (λ (k : 1 ≤ q). k)
              (λ (k : q < 1).
              let none : q ≡ 0 = omega arith in
              absurd (omega (arith, ahead, ap (λ (i : ℕ). i * get_or costs t 0) none, ap (λ (i : ℕ). i * get_or periods t 0) none)))
              (le_or_lt 1 q)

  -- Where there is more to do than the bound, no solution is within it.
  pub too_far : (bound : ℕ) → bound < x → Found periods costs ends n constant bound x
  too_far bound b =
      record {
        at = λ h. absurd (omega arith);
        ends_at = λ h. absurd (omega arith);
        beyond = λ _ z h e. omega (arith, at_most_solution z h e);
      }

  -- Once every load is ahead, the search has found the least solution.
  module _ (one : 1 ≤ total periods costs n constant 1) (quiet : Quiet ends x 0 n) where
    -- No load asks more often by x than it has.
    as_counted : (t : ℕ) → t < n → up x (get_or periods t 0) ≤ c.count t
    as_counted t u =
        up_is_least x (get_or periods t 0) (c.count t) (f.loads.period_pos t u)
        (omega (arith, quiet t (omega arith) u, c.whole t u))

    down : total periods costs n constant x ≤ x
    down =
        omega (
          arith,
          c.sum,
          sum_to_mono (λ (t : ℕ). up x (get_or periods t 0) * get_or costs t 0) (λ (t : ℕ). c.count t * get_or costs t 0) n
              (λ t u. mul-le-mul_right (get_or costs t 0) (as_counted t u)),
          asked_by x,
        )

    is_least : IsLeast (total periods costs n constant) x
    is_least =
        let (z, within, least) = least_exists (total periods costs n constant) (total_mono periods costs n constant f.loads) one x c.from down in
        let same : z ≡ x = omega (arith, within, at_most_solution z least.from least.solution) in
        rw (← same) least

    pub settled : (bound : ℕ) → Found periods costs ends n constant bound x
    settled bound =
        record {
          at = λ _. is_least;
          ends_at =
              λ _ t u.
              c.whole t u ∙
              ap (λ (k : ℕ). k * get_or periods t 0)
              (omega (arith, as_counted t u, c.below x c.from is_least.solution t u));
          beyond = λ b z h e. omega (arith, at_most_solution z h e);
        }
