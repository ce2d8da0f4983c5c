-- Laws of what loads ask for: it grows with the time, one load adds what it asks for, and sums fit machine numbers.
-- Assumes nothing.
use Prim.Native.Nat.{ℕ, zero, suc, ◌+◌, ◌-◌, ◌*◌, ◌^◌, ◌≤◌, ◌<◌}
use native.Mathlib.Nat.{add-zero, add_assoc, add-sub_of_le, mul-le-mul_right, mul-le-mul, lt_of_le_of_lt, le_of_lt}
use native.Mathlib.Omega.{arith}
use native.Mathlib.Numerals.{add-one}
use mathlib.Core.Path.{◌≡◌, ap, ◌∙◌}
use mathlib.Core.List.{List}
use lib.Dec.{lit<}
use lib.ListN.{get_or, drop, length-drop}
use lib.Seq.{get_or-drop}
use Rattle.lists.proofs.Over.{sum_to_zero, sum_to_suc, sum_to_mono, sum_to_at_most}
use Rattle.least.specs.Up.{up}
use Rattle.least.specs.Demand.{load_in, demand, demand_between, total}
use Rattle.least.specs.Search.{Loads, reach}
use Rattle.least.proofs.Up.{up_mono, up_zero, up_at_most}

-- Up(x, period) × cost is below 2 ^ 44 within reach.
pub load_below : (x p c : ℕ) → 1 ≤ p → c < 2 ^ 20 → x < reach → up x p * c < 2 ^ 44
load_below x p c hp hc hx =
    lt_of_le_of_lt (mul-le-mul {n₂ = 16777215} {m₂ = 1048575} (omega (arith, up_at_most x p hp)) (omega arith)) (lit< {m = 16777215 * 1048575} {n = 2 ^ 44} tt)

-- The first m of n loads are loads too.
pub loads_fewer : {periods costs : List ℕ} {n : ℕ} (m : ℕ) → Loads periods costs n → m ≤ n → Loads periods costs m
loads_fewer m l h =
    record {
      few = omega (arith, l.few);
      with_period = omega (arith, l.with_period);
      with_cost = omega (arith, l.with_cost);
      period_pos = λ t u. l.period_pos t (omega arith);
      cost_small = λ t u. l.cost_small t (omega arith);
    }

-- The loads from a to b are loads too.
pub loads_from : {periods costs : List ℕ} {b : ℕ} (a : ℕ) → Loads periods costs b → a ≤ b → Loads (drop a periods) (drop a costs) (b - a)
loads_from {periods} {costs} {b} a l h =
    record {
      few = omega (arith, l.few);
      with_period = rw length-drop (omega (arith, l.with_period));
      with_cost = rw length-drop (omega (arith, l.with_cost));
      period_pos = λ t u. rw (get_or-drop a periods t 0) (l.period_pos (a + t) (omega arith));
      cost_small = λ t u. rw (get_or-drop a costs t 0) (l.cost_small (a + t) (omega arith));
    }

module _ (periods costs : List ℕ) where
  pub demand_zero : (x : ℕ) → demand periods costs 0 x ≡ 0
  unfolding demand
  demand_zero x = sum_to_zero (load_in periods costs x)

  -- In no time nothing is asked for.
  pub demand_at_none : (n : ℕ) → Loads periods costs n → demand periods costs n 0 ≡ 0
  unfolding demand load_in
  demand_at_none n l =
      let each : (t : ℕ) → t < n → load_in periods costs 0 t ≤ 0 = λ t u. rw (up_zero (get_or periods t 0) (l.period_pos t u)) (omega arith) in
      omega (arith, sum_to_at_most (load_in periods costs 0) n 0 each)

  -- One load more adds what it asks for.
  pub demand_suc : (n x : ℕ) → demand periods costs (n + 1) x ≡ demand periods costs n x + up x (get_or periods n 0) * get_or costs n 0
  unfolding demand load_in
  demand_suc n x = sum_to_suc (load_in periods costs x) n

  -- More ticks ask for no less.
  pub demand_mono : (n : ℕ) {x y : ℕ} → Loads periods costs n → x ≤ y → demand periods costs n x ≤ demand periods costs n y
  unfolding demand load_in
  demand_mono n {x} {y} l h =
      sum_to_mono (load_in periods costs x) (load_in periods costs y) n
      (λ t u. mul-le-mul_right (get_or costs t 0) (up_mono (get_or periods t 0) (l.period_pos t u) h))

  -- The total by what the loads ask for.
  pub total_is : (n constant x : ℕ) {d : ℕ} → d ≡ demand periods costs n x → constant + d ≡ total periods costs n constant x
  unfolding total
  total_is n constant x e = ap (λ (d : ℕ). constant + d) e

  pub total_mono : (n constant : ℕ) → Loads periods costs n → (x y : ℕ) → x ≤ y → total periods costs n constant x ≤ total periods costs n constant y
  unfolding total
  total_mono n constant l x y h = omega (arith, demand_mono n l h)

  -- What n loads ask for within reach fits: each asks for less than 2 ^ 44 ticks.
  pub demand_below : (n x : ℕ) → Loads periods costs n → x < reach → demand periods costs n x ≤ n * 2 ^ 44
  unfolding demand load_in
  demand_below n x l h =
      sum_to_at_most (load_in periods costs x) n (2 ^ 44)
      (λ t u. le_of_lt (load_below x (get_or periods t 0) (get_or costs t 0) (l.period_pos t u) (l.cost_small t u) h))

module _ (periods costs : List ℕ) where
  -- The first b loads are the first a and those from a to b.
  split_after : (a n x : ℕ) → demand periods costs a x + demand (drop a periods) (drop a costs) n x ≡ demand periods costs (a + n) x
  split_after a zero x = omega (arith, demand_zero (drop a periods) (drop a costs) x, ap (λ (k : ℕ). demand periods costs k x) (add-zero a))
  split_after a (suc n) x =
      rw (← add-one n, ← add_assoc a n 1) (omega (arith, split_after a n x, demand_suc (drop a periods) (drop a costs) n x, demand_suc periods costs (a + n) x, same_load))
    where
      same_load : up x (get_or (drop a periods) n 0) * get_or (drop a costs) n 0 ≡ up x (get_or periods (a + n) 0) * get_or costs (a + n) 0
      same_load = rw (get_or-drop a periods n 0, get_or-drop a costs n 0)

  pub demand_split : (a b x : ℕ) → a ≤ b → demand periods costs a x + demand_between periods costs a b x ≡ demand periods costs b x
  unfolding demand_between
  demand_split a b x h = split_after a (b - a) x ∙ ap (λ (k : ℕ). demand periods costs k x) (add-sub_of_le h)

  -- Loads from a to b ask for no less in more ticks.
  pub between_mono : (a b : ℕ) {x y : ℕ} → Loads periods costs b → a ≤ b → x ≤ y → demand_between periods costs a b x ≤ demand_between periods costs a b y
  unfolding demand_between
  between_mono a b l h u = demand_mono (drop a periods) (drop a costs) (b - a) (loads_from a l h) u
