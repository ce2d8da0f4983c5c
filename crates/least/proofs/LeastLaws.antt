-- What the least solution over loads and a constant part means: it is the least, none means that none is in range, a
-- search that has found it or has passed the bound knows it, and it is there where the total has come down. Assumes nothing.
use Prim.Native.Nat.{ℕ, ◌≤◌, ◌<◌}
use native.Mathlib.Omega.{arith}
use native.Mathlib.Nat.{eq-or-lt_of_le}
use mathlib.Core.Path.{◌≡◌}
use mathlib.Core.List.{List}
use mathlib.Core.Logic.{⊎_elim}
use mathlib.Core.Option.{none, some}
use borrow.Author.Tests.{eqb-true, eqb-false, eq-eqb, ne_eqb}
use Rattle.lists.proofs.First.{first_such_means, first_such_none, first_such_is, first_such_nowhere}
use Rattle.least.specs.Demand.{total}
use Rattle.least.specs.Least.{solves, least}
use Rattle.least.specs.Search.{Loads, Stands, IsLeast}
use Rattle.least.proofs.Demand.{total_mono}
use Rattle.least.proofs.Search.{least_exists}

-- z is the least of all solutions from 1 up, and is at most the bound.
pub record LeastUpTo (f : ℕ → ℕ) (bound z : ℕ) : Type 0 where
  pub from : 1 ≤ z
  pub within : z ≤ bound
  pub solution : z ≡ f z
  pub before : (y : ℕ) → 1 ≤ y → y < z → y ≡ f y → ⊥

module _ (periods costs : List ℕ) (n constant bound : ℕ) where
  -- An answer is a solution, is at least 1 and at most the bound, and no smaller number from 1 up is a solution.
  pub least_means : {z : ℕ} → least periods costs n constant bound ≡ some z → LeastUpTo (total periods costs n constant) bound z
  unfolding least solves
  least_means {z} e =
      let i = first_such_means (solves periods costs n constant) bound 1 z e in
      record {
        from = i.from;
        within = omega (arith, i.within);
        solution = eqb-true _ _ i.passes;
        before = λ y l u. eqb-false _ _ (i.before y l u);
      }

  -- No answer: no number from 1 to the bound is a solution.
  pub least_none : least periods costs n constant bound ≡ none → (y : ℕ) → 1 ≤ y → y ≤ bound → y ≡ total periods costs n constant y → ⊥
  unfolding least solves
  least_none e y l u =
      eqb-false _ _ (first_such_none (solves periods costs n constant) bound 1 e y l (omega arith))

  -- The least of all solutions is the answer where it is at most the bound.
  pub least_found : {z : ℕ} → IsLeast (total periods costs n constant) z → z ≤ bound → least periods costs n constant bound ≡ some z
  unfolding least solves
  least_found {z} i h =
      first_such_is (solves periods costs n constant) bound 1 z
      (record {
        from = i.from;
        within = omega arith;
        passes = eq-eqb _ _ i.solution;
        before = λ y l u. ne_eqb _ _ (λ (e : y ≡ total periods costs n constant y). omega (arith, i.before y l u));
      })

  -- Where every solution is beyond the bound there is none.
  pub least_nowhere : ((z : ℕ) → 1 ≤ z → z ≡ total periods costs n constant z → bound < z) → least periods costs n constant bound ≡ none
  unfolding least solves
  least_nowhere h =
      first_such_nowhere (solves periods costs n constant) bound 1
      (λ y l u. ne_eqb _ _ (λ (e : y ≡ total periods costs n constant y). omega (arith, h y l e)))

  -- A search that has passed the bound shows that there is none.
  pub least_passed : {x : ℕ} → Stands (total periods costs n constant) x → bound < x → least periods costs n constant bound ≡ none
  unfolding least solves
  least_passed s h =
      first_such_nowhere (solves periods costs n constant) bound 1
      (λ y l u. let g = s.before y l (omega arith) in ne_eqb _ _ (λ (e : y ≡ total periods costs n constant y). omega arith))

  module _ (l : Loads periods costs n) (one : 1 ≤ total periods costs n constant 1) where
    -- Where the total has come down at some number from 1 to the bound, there is a least solution, and it is no greater.
    pub least_below : (top : ℕ) → 1 ≤ top → top ≤ bound → total periods costs n constant top ≤ top → (z : ℕ) × (z ≤ top) × (least periods costs n constant bound ≡ some z) × IsLeast (total periods costs n constant) z
    least_below top from within down =
        let r = least_exists (total periods costs n constant) (total_mono periods costs n constant l) one top from down in
        (r.0, r.1, least_found r.2 (omega (arith, r.1)), r.2)

    -- Before an answer, everything is strictly below its total.
    pub least_strict : {z : ℕ} → least periods costs n constant bound ≡ some z → IsLeast (total periods costs n constant) z
    least_strict {z} e =
        let m = least_means e in
        let r = least_exists (total periods costs n constant) (total_mono periods costs n constant l) one z m.from (omega (arith, m.solution)) in
        ⊎_elim (λ (q : r.0 ≡ z). rw (← q) r.2)
        (λ (q : r.0 < z). absurd (m.before r.0 r.2.from q r.2.solution))
        (eq-or-lt_of_le r.1)
