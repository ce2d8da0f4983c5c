-- One result only, where a contract is not an equation by its form. Assumes nothing.
use Rattle.std.specs.Prelude.{ℕ, ◌+◌, ◌≤◌, ◌<◌, ◌≡◌, List}
use Rattle.std.proofs.Common.{eq-or-lt_of_le, arith, ⊎_elim}
use Rattle.lists.proofs.Over.{le_or_lt}
use Rattle.least.specs.Share.{Fitting}
use Rattle.least.specs.Search.{IsLeast}
use Rattle.least.proofs.ShareLaws.{shares_longer}

-- There is one least solution only: the contract of `search::Asking::least_within` determines its result.
pub one_least_solution : (f : ℕ → ℕ) (y z : ℕ) → IsLeast f y → IsLeast f z → y ≡ z
one_least_solution f y z a b =
    ⊎_elim (λ (l : y ≤ z).
    ⊎_elim (λ (e : y ≡ z). e) (λ (k : y < z). absurd (not_strict y (b.before y a.from k) a.solution)) (eq-or-lt_of_le l))
    (λ (k : z < y). absurd (not_strict z (a.before z b.from k) b.solution)) (le_or_lt y z)
  where
    not_strict : (x : ℕ) → x < f x → x ≡ f x → ⊥
    not_strict x l e = omega arith

-- Nor do two numbers of loads both fit and leave no room for one more: the contract of `least::LoadList::fitting` determines its result.
pub one_number_fits : (periods costs : List ℕ) (n r q : ℕ) → Fitting periods costs n r → Fitting periods costs n q → r ≡ q
one_number_fits periods costs n r q f g =
    ⊎_elim (λ (h : r ≤ q). ⊎_elim (λ (k : q ≤ r). omega arith) (λ (k : r < q). absurd (too_many r q k f g)) (le_or_lt q r))
    (λ (h : q < r). absurd (too_many q r h g f))
    (le_or_lt r q)
  where
    too_many : (a b : ℕ) → a < b → Fitting periods costs n a → Fitting periods costs n b → ⊥
    too_many a b h x y = omega (arith, x.over (omega (arith, y.few)), y.fits, shares_longer periods costs (a + 1) b (omega arith))
