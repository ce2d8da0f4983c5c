-- Laws of the search for the least solution of x = f x from 1 up, for any f that does not fall: where it may stand next,
-- that it finds the least solution, where a later search may start, and when there is a solution at all. Assumes nothing.
use Prim.Native.Nat.{ℕ, zero, suc, ◌+◌, ◌≤◌, ◌<◌}
use native.Mathlib.Nat.{lt_of_lt_of_le, eq-or-lt_of_le}
use native.Mathlib.Omega.{arith}
use mathlib.Core.Path.{◌≡◌, ap}
use mathlib.Core.Logic.{⊎_elim}
use Rattle.lists.proofs.Over.{le_or_lt}
use Rattle.least.specs.Search.{Stands, IsLeast}

-- A function that does not fall.
abbrev pub Mono : (ℕ → ℕ) → Type 0
Mono f = (x y : ℕ) → x ≤ y → f x ≤ f y

module _ (f : ℕ → ℕ) where
  -- The search may start from 1 where f gives at least 1 there.
  pub stands_at_one : 1 ≤ f 1 → Stands f 1
  stands_at_one h = record { from = omega arith; rises = h; before = λ y l u. absurd (omega arith) }

  -- It may start at x where f gives at least x everywhere.
  pub stands_at_floor : {x : ℕ} → 1 ≤ x → ((y : ℕ) → 1 ≤ y → x ≤ f y) → Stands f x
  stands_at_floor {x} from floor =
      record { from = from; rises = floor x from; before = λ y l u. lt_of_lt_of_le u (floor y l) }

  -- Where f is still above x, the search goes on at f x.
  pub stands_next : Mono f → {x : ℕ} → Stands f x → Stands f (f x)
  stands_next m {x} s =
      record {
        from = omega (arith, s.from, s.rises);
        rises = m x (f x) s.rises;
        before =
            λ y l u.
            ⊎_elim (λ (h : x ≤ y). lt_of_lt_of_le u (m x y h)) (λ (h : y < x). s.before y l h) (le_or_lt x y);
      }

  -- Where f gives x itself, x is the least solution.
  pub stands_found : {x : ℕ} → Stands f x → x ≡ f x → IsLeast f x
  stands_found s e = record { from = s.from; solution = e; before = s.before }

  -- The search stands at the least solution too.
  pub least_stands : {z : ℕ} → IsLeast f z → Stands f z
  least_stands i = record { from = i.from; rises = omega (arith, i.solution); before = i.before }

  -- There is one least solution only.
  pub least_is_one : {y z : ℕ} → IsLeast f y → IsLeast f z → y ≡ z
  least_is_one {y} {z} i j =
      ⊎_elim
      (λ (h : y ≤ z).
      ⊎_elim (λ (e : y ≡ z). e) (λ (l : y < z). absurd (omega (arith, j.before y i.from l, i.solution)))
      (eq-or-lt_of_le h))
      (λ (l : z < y). absurd (omega (arith, i.before z j.from l, j.solution)))
      (le_or_lt y z)

  -- A search never passes a number at which f has come down.
  pub stands_below : {x top : ℕ} → Stands f x → 1 ≤ top → f top ≤ top → x ≤ top
  stands_below {x} {top} s from down =
      ⊎_elim (λ (h : x ≤ top). h) (λ (h : top < x). absurd (omega (arith, s.before top from h))) (le_or_lt x top)

  -- Where f has come down at top, a search from x, with n steps up to top, finds the least solution.
  climbs : Mono f → {top : ℕ} → 1 ≤ top → f top ≤ top → (n : ℕ) {x : ℕ} → Stands f x → top ≤ x + n → (z : ℕ) × (z ≤ top) × IsLeast f z
  climbs m {top} from down zero {x} s h =
      let e : x ≡ top = omega (arith, stands_below s from down) in
      (x, omega arith, stands_found s (omega (arith, s.rises, ap f e)))
  climbs m {top} from down (suc n) {x} s h =
      ⊎_elim (λ (e : x ≡ f x). (x, stands_below s from down, stands_found s e))
      (λ (l : x < f x). climbs m from down n (stands_next m s) (omega arith))
      (eq-or-lt_of_le s.rises)

  -- If f has come down at top then a least solution exists at or below top.
  pub least_exists : Mono f → 1 ≤ f 1 → (top : ℕ) → 1 ≤ top → f top ≤ top → (z : ℕ) × (z ≤ top) × IsLeast f z
  least_exists m h top from down = climbs m from down top (stands_at_one h) (omega arith)

-- A later search starts where an earlier one stood, and d further on: its function g is no lower than f before x, and
-- from x on gives at least x + d.
pub stands_warm : (f g : ℕ → ℕ) {x : ℕ} (d : ℕ) → Stands f x → ((y : ℕ) → y < x → f y ≤ g y) → ((y : ℕ) → x ≤ y → x + d ≤ g y) → Stands g (x + d)
stands_warm f g {x} d s low high =
    record {
      from = omega (arith, s.from);
      rises = high (x + d) (omega arith);
      before =
          λ y l u.
          ⊎_elim (λ (h : x ≤ y). lt_of_lt_of_le u (high y h))
          (λ (h : y < x). lt_of_lt_of_le (s.before y l h) (low y h))
          (le_or_lt x y);
    }
