-- Laws of loads that ask on until a number of ticks: each then has asked as often as it does by that number, whatever it had
-- asked before. Assumes nothing.
use Prim.Native.Nat.{ℕ, zero, suc, ◌+◌, ◌-◌, ◌*◌, ◌^◌, ◌≤◌, ◌<◌}
use native.Mathlib.Nat.{add-mul, mul-le-mul_left}
use native.Mathlib.Numerals.{add-one}
use native.Mathlib.Omega.{arith}
use mathlib.Core.Path.{◌≡◌, refl, sym, ap, ◌∙◌}
use mathlib.Core.List.{List}
use mathlib.Core.Logic.{⊎_elim}
use borrow.Author.Rules.{read_below, read_above}
use lib.ListN.{length, get_or, set, length-set}
use lib.Seq.{get_or-set_same}
use Rattle.lists.specs.Range.{sum_to}
use Rattle.lists.proofs.Over.{le_or_lt, sum_to_zero, sum_to_suc, sum_to_at_most}
use Rattle.least.specs.Up.{up}
use Rattle.least.specs.Demand.{load_in, demand, total}
use Rattle.least.specs.Search.{reach}
use Rattle.search.specs.After.{Fit, slots, EndsAt, Advanced}
use Rattle.least.proofs.Up.{up_holds, up_is_tight, up_is_least, up_mono, up_zero}

-- The blocks of a longer time are those of a shorter one and those of what these do not hold.
up_on : (a c b : ℕ) → 1 ≤ b → a ≤ c → up c b ≡ up a b + up (c - up a b * b) b
up_on a c b h u =
    let first : ℕ = up a b in
    let rest : ℕ = up (c - first * b) b in
    let all : ℕ = up c b in
    let over : ℕ = all - first in
    let more : first ≤ all = up_mono b h u in
    let whole : all * b ≡ first * b + over * b = ap (λ (k : ℕ). k * b) (omega arith) ∙ add-mul first over b in
    let enough : all ≤ first + rest = up_is_least c b (first + rest) h (omega (arith, add-mul first rest b, up_holds (c - first * b) b h)) in
    let least : rest ≤ over = up_is_least (c - first * b) b over h (omega (arith, whole, up_holds c b h)) in
    omega arith

-- Two sums are the sum of both.
sum_both : (f g h : ℕ → ℕ) (n : ℕ) → ((t : ℕ) → t < n → h t ≡ f t + g t) → sum_to h n ≡ sum_to f n + sum_to g n
sum_both f g h zero e = omega (arith, sum_to_zero f, sum_to_zero g, sum_to_zero h)
sum_both f g h (suc n) e =
    rw (← add-one n) (omega (arith, sum_to_suc f n, sum_to_suc g n, sum_to_suc h n, sum_both f g h n (λ t u. e t (omega arith)), e n (omega arith)))

-- How often load t asks on, and what for.
abbrev pub asked_on : List ℕ → List ℕ → ℕ → ℕ → ℕ
asked_on periods ends start t = up (start - get_or ends t 0) (get_or periods t 0)

pub on_costs : List ℕ → List ℕ → List ℕ → ℕ → ℕ → ℕ
on_costs periods costs ends start t = asked_on periods ends start t * get_or costs t 0

-- The first t loads have asked on, so that what there is to do has grown from x to `sum`; the others have not yet.
pub record Advancing (periods costs ends : List ℕ) (x start t : ℕ) (after : List ℕ) (sum : ℕ) : Type 0 where
  pub moved : (j : ℕ) → j < t → get_or after j 0 ≡ get_or ends j 0 + asked_on periods ends start j * get_or periods j 0
  pub kept : (j : ℕ) → t ≤ j → get_or after j 0 ≡ get_or ends j 0
  pub to_do : sum ≡ x + sum_to (on_costs periods costs ends start) t
  pub same_length : length after ≡ length ends

module _ (periods costs ends : List ℕ) (x start : ℕ) where
  pub advances_from : Advancing periods costs ends x start 0 ends x
  advances_from =
      record {
        moved = λ j h. absurd (omega arith);
        kept = λ j h. refl;
        to_do = omega (arith, sum_to_zero (on_costs periods costs ends start));
        same_length = refl;
      }

  module _ (t : ℕ) (after : List ℕ) (sum : ℕ) (a : Advancing periods costs ends x start t after sum) where
    -- What load t asks for, as the code works it out.
    module _ (times : ℕ) (e : times ≡ up (start - get_or after t 0) (get_or periods t 0)) where
      times_are : times ≡ asked_on periods ends start t
      times_are = e ∙ ap (λ (k : ℕ). up (start - k) (get_or periods t 0)) (a.kept t (omega arith))

      costs_are : times * get_or costs t 0 ≡ on_costs periods costs ends start t
      unfolding on_costs
      costs_are = ap (λ (k : ℕ). k * get_or costs t 0) times_are

      -- Where its last period then ends.
      abbrev next : ℕ
      next = get_or after t 0 + times * get_or periods t 0

      pub asks_on : t < length after → Advancing periods costs ends x start (t + 1) (set after t next) (sum + times * get_or costs t 0)
      asks_on room =
          record {
            moved = moved_on;
            kept = λ j h. read_above ℕ after t j next 0 (get_or ends j 0) (omega arith) (a.kept j (omega arith));
            to_do = omega (arith, a.to_do, costs_are, sum_to_suc (on_costs periods costs ends start) t);
            same_length = length-set after t next ∙ a.same_length;
          }
        where
          next_is : next ≡ get_or ends t 0 + asked_on periods ends start t * get_or periods t 0
          next_is = omega (arith, a.kept t (omega arith), ap (λ (k : ℕ). k * get_or periods t 0) times_are)

          moved_on : (j : ℕ) → j < t + 1 → get_or (set after t next) j 0 ≡ get_or ends j 0 + asked_on periods ends start j * get_or periods j 0
          moved_on j h =
              ⊎_elim (λ (k : t ≤ j). let same : j ≡ t = omega arith in rw same (get_or-set_same after t next 0 room ∙ next_is))
              (λ (k : j < t). read_below ℕ after t j next 0 (get_or ends j 0 + asked_on periods ends start j * get_or periods j 0) k (a.moved j k))
              (le_or_lt t j)

    -- A load that has come that far asks for nothing.
    pub stays : 1 ≤ get_or periods t 0 → start ≤ get_or after t 0 → Advancing periods costs ends x start (t + 1) after sum
    unfolding on_costs
    stays pos h =
        record {
          moved =
              λ j k.
              ⊎_elim (λ (w : t ≤ j). let same : j ≡ t = omega arith in rw same (omega (arith, a.kept t (omega arith), ap (λ (i : ℕ). i * get_or periods t 0) none)))
              (λ (w : j < t). a.moved j w)
              (le_or_lt t j);
          kept = λ j k. a.kept j (omega arith);
          to_do = omega (arith, a.to_do, nothing, sum_to_suc (on_costs periods costs ends start) t);
          same_length = a.same_length;
        }
      where
        none : asked_on periods ends start t ≡ 0
        none =
            let past : start - get_or ends t 0 ≡ 0 = omega (arith, a.kept t (omega arith)) in
            ap (λ (k : ℕ). up k (get_or periods t 0)) past ∙ up_zero (get_or periods t 0) pos

        nothing : on_costs periods costs ends start t ≡ 0
        nothing = omega (arith, ap (λ (k : ℕ). k * get_or costs t 0) none)

  module _ (n : ℕ) (f : Fit periods costs n) where
    on_small : start ≤ reach → (t : ℕ) → t < n → on_costs periods costs ends start t ≤ 2 ^ 25
    unfolding on_costs
    on_small within t u =
        omega (
          arith,
          mul-le-mul_left (asked_on periods ends start t) (f.cost_fits t u),
          up_is_tight (start - get_or ends t 0) (get_or periods t 0) (f.loads.period_pos t u),
          f.period_small t u,
        )

    -- Sums fit.
    pub sum_small : n ≤ slots → x < reach → start ≤ reach → (t : ℕ) → t ≤ n → (after : List ℕ) (sum : ℕ) → Advancing periods costs ends x start t after sum → sum < 2 ^ 29
    sum_small few u v t h after sum a =
        omega (arith, a.to_do, sum_to_at_most (on_costs periods costs ends start) t (2 ^ 25) (λ j w. on_small v j (omega arith)))

    -- So do those of load t, which asks on as the code works it out.
    pub asked_fits :
        n ≤ slots → x < reach → start ≤ reach → {t : ℕ} → t < n → {after : List ℕ} {sum : ℕ} → Advancing periods costs ends x start t after sum →
        t < length after → get_or after t 0 < start → {times : ℕ} → times ≡ up (start - get_or after t 0) (get_or periods t 0) →
        (get_or after t 0 + times * get_or periods t 0 < 2 ^ 26) × (sum + times * get_or costs t 0 < 2 ^ 29)
    asked_fits few u v {t} h {after} {sum} a room late {times} e = (
      omega (arith, late, v, ap (λ (k : ℕ). k * get_or periods t 0) e, up_is_tight (start - get_or after t 0) (get_or periods t 0) (f.loads.period_pos t h), f.period_small t h),
      sum_small few u v (t + 1) (omega arith) _ _ (asks_on t after sum a times e room),
    )

    -- Once all have asked on, each has asked as often as it does by `start`.
    module _ (y : ℕ) (h : y ≤ start) (ends_at : EndsAt periods ends n y) where
      asked_all : (t : ℕ) → t < n → up start (get_or periods t 0) ≡ up y (get_or periods t 0) + asked_on periods ends start t
      asked_all t u =
          up_on y start (get_or periods t 0) (f.loads.period_pos t u) h ∙
          ap (λ (k : ℕ). up y (get_or periods t 0) + up (start - k) (get_or periods t 0)) (sym (ends_at t u))

      demand_on : demand periods costs n start ≡ demand periods costs n y + sum_to (on_costs periods costs ends start) n
      unfolding demand load_in on_costs
      demand_on =
          sum_both (load_in periods costs y) (on_costs periods costs ends start) (load_in periods costs start) n
          (λ t u. ap (λ (k : ℕ). k * get_or costs t 0) (asked_all t u) ∙ add-mul (up y (get_or periods t 0)) (asked_on periods ends start t) (get_or costs t 0))

    pub all_advanced : (after : List ℕ) (sum : ℕ) → Advancing periods costs ends x start n after sum → Advanced periods costs ends n x start after sum
    unfolding total
    all_advanced after sum a =
        record {
          ends_at =
              λ y h e t u.
              a.moved t u ∙ ap (λ (k : ℕ). k + asked_on periods ends start t * get_or periods t 0) (e t u) ∙
              sym (ap (λ (k : ℕ). k * get_or periods t 0) (asked_all y h e t u) ∙ add-mul (up y (get_or periods t 0)) (asked_on periods ends start t) (get_or periods t 0));
          to_do = λ y constant h e g. omega (arith, a.to_do, g, demand_on y h e);
          same_length = a.same_length;
        }
