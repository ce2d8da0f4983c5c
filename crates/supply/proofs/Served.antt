-- The supply formula with its quotient and its remainder apart, and how it moves from one tick to the next.
-- Assumes nothing.
use Prim.Native.Nat.{ℕ, suc, ◌+◌, ◌-◌, ◌*◌, ◌/◌, ◌%◌, ◌≤◌, ◌<◌}
use mathlib.Core.Path.{◌≡◌, refl, sym, ◌∙◌, ap}
use mathlib.Core.Logic.{⊎_elim}
use native.Mathlib.Nat.{div-add-mod', mod-lt, zero-div, zero-mod, zero-mul, suc-mul, mul-le-mul_left}
use native.Mathlib.Omega.{arith}
use lib.Arith.{digits_div, digits_mod}
use borrow.Author.Tests.{lt-ltb, le-ltb}
use Rattle.lists.proofs.Over.{le_or_lt}
use Rattle.supply.specs.Supply.{supply}
use Rattle.supply.proofs.Steps.{never_falls}

-- What z ticks hold at least, once the first E − Q ticks of a window are past: Q for each whole period, and of the
-- period that is begun what lies beyond its P − Q idle ticks.
unfoldable pub served : (P Q z : ℕ) → ℕ
served P Q z = z / P * Q + (z % P - (P - Q))

pub served_parts : (P Q z : ℕ) → served P Q z ≡ z / P * Q + (z % P - (P - Q))
unfolding served
served_parts P Q z = refl

pub served_zero : (P Q : ℕ) → served P Q 0 ≡ 0
unfolding served
served_zero P Q = simp (zero-div P, zero-mod P, zero-mul) (omega arith)

-- The quotient and the remainder of y P + r are y and r.
pub served_at : (P Q y r : ℕ) → r < P → served P Q (y * P + r) ≡ y * Q + (r - (P - Q))
unfolding served
served_at P Q y r h = rw (digits_div y h, digits_mod y h)

begun : (s i x whole r : ℕ) → s ≤ x → whole + r ≡ x - s → x - (i + s) - whole ≡ r - i
begun s i x whole r h e = omega arith

pub supply_is_served : (P Q E x : ℕ) → Q ≤ E → Q ≤ P → supply P Q E x ≡ served P Q (x - (E - Q))
unfolding supply
supply_is_served P Q E x qe qp = ⊎_elim long short (le_or_lt (E - Q) x)
  where
    short : x < E - Q → supply P Q E x ≡ served P Q (x - (E - Q))
    short h = let none_left : x - (E - Q) ≡ 0 = omega arith in rw (lt-ltb, none_left) (sym (served_zero P Q))

    long : E - Q ≤ x → supply P Q E x ≡ served P Q (x - (E - Q))
    long h =
        let z : ℕ = x - (E - Q) in
        let idle : P + E - 2 * Q ≡ P - Q + (E - Q) = omega arith in
        rw (le-ltb, idle, begun (E - Q) (P - Q) x (z / P * P) (z % P) h (div-add-mod' z P)) (sym (served_parts P Q z))

module _ (P Q : ℕ) (qp : Q ≤ P) (pos : 0 < P) where
  served_next : (z y r : ℕ) → z ≡ y * P + r → r < P → (served P Q z ≤ served P Q (suc z)) × (served P Q (suc z) ≤ served P Q z + 1)
  served_next z y r e h = ⊎_elim over within (le_or_lt P (suc r))
    where
      here : served P Q z ≡ y * Q + (r - (P - Q))
      here = ap (served P Q) e ∙ served_at P Q y r h

      within : suc r < P → (served P Q z ≤ served P Q (suc z)) × (served P Q (suc z) ≤ served P Q z + 1)
      within l =
          let next : suc z ≡ y * P + suc r = omega arith in
          omega (arith, here, ap (served P Q) next, served_at P Q y (suc r) l)

      over : P ≤ suc r → (served P Q z ≤ served P Q (suc z)) × (served P Q (suc z) ≤ served P Q z + 1)
      over l =
          let next : suc z ≡ suc y * P + 0 = omega (arith, suc-mul y P) in
          omega (arith, here, ap (served P Q) next, served_at P Q (suc y) 0 pos, suc-mul y Q)

  -- The parts of y P + r may be read off at r = P too.
  pub served_at_end : (y r : ℕ) → r ≤ P → served P Q (y * P + r) ≡ y * Q + (r - (P - Q))
  served_at_end y r h = ⊎_elim end within (le_or_lt P r)
    where
      within : r < P → served P Q (y * P + r) ≡ y * Q + (r - (P - Q))
      within l = served_at P Q y r l

      end : P ≤ r → served P Q (y * P + r) ≡ y * Q + (r - (P - Q))
      end l =
          let next : y * P + r ≡ suc y * P + 0 = omega (arith, suc-mul y P) in
          omega (arith, ap (served P Q) next, served_at P Q (suc y) 0 pos, suc-mul y Q)

  -- One tick more holds as much, or one more.
  pub served_step : (z : ℕ) → (served P Q z ≤ served P Q (suc z)) × (served P Q (suc z) ≤ served P Q z + 1)
  served_step z = let split : z / P * P + z % P ≡ z = div-add-mod' z P in served_next z (z / P) (z % P) (omega arith) (mod-lt z pos)

  -- More ticks hold no less.
  pub served_mono : {a b : ℕ} → a ≤ b → served P Q a ≤ served P Q b
  served_mono h = never_falls (served P Q) (λ z. (served_step z).0) h

-- A larger budget holds no less.
pub served_mono_budget : (P : ℕ) {Q R : ℕ} → Q ≤ R → (z : ℕ) → served P Q z ≤ served P R z
unfolding served
served_mono_budget P {Q} {R} h z = omega (arith, mul-le-mul_left (z / P) h)
