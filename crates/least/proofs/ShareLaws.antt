-- Loads that ask for more than every tick has are never done: what they ask for in x ticks is more than x, whatever x is. And
-- where they leave something of every tick, their shares say how far on a search may stand. Assumes nothing.
use Prim.Native.Nat.{ℕ, zero, suc, ◌+◌, ◌-◌, ◌*◌, ◌/◌, ◌≤◌, ◌<◌}
use native.Mathlib.Nat.{div-mul-le_self, lt_of_mul-lt-mul_right, mul-le-mul_left, mul-le-mul_right, mul-add, mul_assoc, mul_comm, mul-zero, suc-mul}
use native.Mathlib.Omega.{arith}
use mathlib.Core.Path.{◌≡◌, ap, ◌∙◌}
use mathlib.Core.Option.{none}
use mathlib.Core.List.{List}
use lib.ListN.{get_or}
use Rattle.lists.specs.Range.{sum_to}
use Rattle.lists.proofs.Over.{sum_to_zero, sum_to_suc, sum_to_longer}
use Rattle.least.specs.Up.{up}
use Rattle.least.specs.Demand.{load_in, demand, total}
use Rattle.least.specs.Share.{unit, share_of, shares, Fitting, standing_at}
use Rattle.least.specs.Least.{least}
use Rattle.least.specs.Search.{Loads, Stands, Starts, reach}
use Rattle.least.proofs.Up.{up_holds}
use Rattle.least.proofs.Demand.{loads_fewer}
use Rattle.least.proofs.LeastLaws.{least_passed}

-- In x ticks a load asks for at least x times its share.
share_holds : (x p c : ℕ) → 1 ≤ p → x * (c * unit / p) ≤ up x p * c * unit
share_holds x p c h =
    let q : ℕ = c * unit / p in
    let blocks : x * q ≤ up x p * p * q = mul-le-mul_right q (up_holds x p h) in
    let within : up x p * (q * p) ≤ up x p * (c * unit) = mul-le-mul_left (up x p) (div-mul-le_self (c * unit) p) in
    let turned : up x p * p * q ≡ up x p * (q * p) = mul_assoc (up x p) p q ∙ ap (λ (y : ℕ). up x p * y) (mul_comm p q) in
    let joined : up x p * c * unit ≡ up x p * (c * unit) = mul_assoc (up x p) c unit in
    omega (arith, blocks, within, turned, joined)

module _ (periods costs : List ℕ) where
  shares_hold : (n x : ℕ) → Loads periods costs n → x * shares periods costs n ≤ demand periods costs n x * unit
  unfolding shares demand sum_to share_of load_in
  shares_hold zero x l = omega (arith, mul-zero x)
  shares_hold (suc n) x l =
      let here = share_holds x (get_or periods n 0) (get_or costs n 0) (l.period_pos n (omega arith)) in
      let before = shares_hold n x (loads_fewer n l (omega arith)) in
      omega (arith, here, before, mul-add x (sum_to (share_of periods costs) n) (get_or costs n 0 * unit / get_or periods n 0))

  -- The turns of the sum.
  pub shares_none : shares periods costs 0 ≡ 0
  unfolding shares
  shares_none = sum_to_zero (share_of periods costs)

  pub shares_turn : (t sum q : ℕ) → sum ≡ shares periods costs t → q ≡ get_or costs t 0 * unit / get_or periods t 0 → sum + q ≡ shares periods costs (t + 1)
  unfolding shares share_of
  shares_turn t sum q e f = rw (sum_to_suc (share_of periods costs) t, e, f)

  module _ (n : ℕ) (l : Loads periods costs n) (over : unit < shares periods costs n) where
    asks_more : (x : ℕ) → 1 ≤ x → x < demand periods costs n x
    asks_more x h =
        let more : x * (unit + 1) ≤ x * shares periods costs n = mul-le-mul_left x (omega arith) in
        lt_of_mul-lt-mul_right unit (omega (arith, more, shares_hold n x l))

    -- A search may stand anywhere, so beyond any bound: there is no solution.
    pub no_least : (constant bound : ℕ) → least periods costs n constant bound ≡ none
    unfolding total
    no_least constant bound =
        least_passed periods costs n constant bound {x = bound + 1}
        (record {
          from = omega arith;
          rises = omega (arith, asks_more (bound + 1) (omega arith));
          before = λ y h u. omega (arith, asks_more y h);
        })
        (omega arith)

  -- More loads ask for no less.
  pub shares_longer : (m n : ℕ) → m ≤ n → shares periods costs m ≤ shares periods costs n
  unfolding shares
  shares_longer m n h = sum_to_longer (share_of periods costs) m n h

  -- With one load more than fit, and with any after it, there is no solution.
  pub no_least_beyond : {n r s : ℕ} → Fitting periods costs n r → r ≤ s → s < n → Loads periods costs (s + 1) → (constant bound : ℕ) → least periods costs (s + 1) constant bound ≡ none
  no_least_beyond {n} {r} {s} f h u l =
      no_least (s + 1) l (omega (arith, f.over (omega arith), shares_longer (r + 1) (s + 1) (omega arith)))

------------------------------------------------------------------------
-- Where a search may stand by the shares: the loads ask for their share of every tick, so that up to the quotient nothing is above
-- the total.

module _ (periods costs : List ℕ) (n constant spare : ℕ) (l : Loads periods costs n) (e : spare ≡ unit - shares periods costs n) (some : 1 ≤ spare) where
  abbrev reached : ℕ
  reached = constant * unit / spare

  by_parts : (y : ℕ) → y * unit ≡ y * spare + y * shares periods costs n
  by_parts y = ap (λ (z : ℕ). y * z) (omega (arith, e, some)) ∙ mul-add y spare (shares periods costs n)

  up_to : (y : ℕ) → y ≤ reached → y * spare ≤ constant * unit
  up_to y u = omega (arith, mul-le-mul_right spare u, div-mul-le_self (constant * unit) spare)

  reached_stands : (r : ℕ) → 1 ≤ r → r ≤ reached → Stands (total periods costs n constant) r
  unfolding total
  reached_stands r h u =
      record {
        from = h;
        rises = omega (arith, by_parts r, up_to r u, shares_hold periods costs n r l);
        before = λ y k w. omega (arith, by_parts y, up_to (suc y) (omega arith), suc-mul y spare, some, shares_hold periods costs n y l);
      }

pub standing_starts : (periods costs : List ℕ) (n constant spare x r : ℕ) → Loads periods costs n → spare ≡ unit - shares periods costs n → 1 ≤ spare → r ≡ standing_at constant spare → Starts (total periods costs n constant) x r
unfolding standing_at
standing_starts periods costs n constant spare x r l e some is =
    record {
      stands = λ h. reached_stands periods costs n constant spare l e some r (omega arith) (omega (arith, is));
      within = omega (arith, is);
    }

-- As the code works it out.
pub standing_beyond : (constant spare q : ℕ) → q ≡ constant * unit / spare → reach < q → reach ≡ standing_at constant spare
unfolding standing_at
standing_beyond constant spare q e h = omega (arith, e)

pub standing_there : (constant spare q : ℕ) → q ≡ constant * unit / spare → q ≤ reach → q ≡ standing_at constant spare
unfolding standing_at
standing_there constant spare q e h = omega (arith, e)
