-- The decimal form is one: its digits have the number's value, the first is no zero unless it is the only one, and a number
-- has as many digits as it needs. Assumes nothing.
use Prim.Native.Nat.{ℕ, zero, suc, ◌+◌, ◌-◌, ◌*◌, ◌/◌, ◌%◌, ◌≤◌, ◌<◌, ◌^◌}
use native.Mathlib.Nat.{div-lt_iff_lt-mul, pow-suc}
use native.Mathlib.Omega.{arith}
use mathlib.Core.Path.{◌≡◌, refl, sym, ap, ◌∙◌}
use mathlib.Core.Logic.{⊎_elim}
use mathlib.Core.List.{List, [], ◌∷◌, ◌++◌}
use borrow.Author.Tests.{lt-ltb, le-ltb}
use lib.ListN.{length, get_or, length-append, get_or-append}
use Rattle.lists.proofs.Over.{le_or_lt}
use Rattle.lines.specs.Decimal.{digit_byte, digits, decimal}

-- A number below ten is one digit.
pub digits_of_small : (m n : ℕ) → n < 10 → digits (suc m) n ≡ digit_byte n ∷ []
unfolding digits
digits_of_small m n h = rw (lt-ltb n 10 h)

-- Any other ends in its last digit.
pub digits_of_large : (m n : ℕ) → 10 ≤ n → digits (suc m) n ≡ digits m (n / 10) ++ (digit_byte (n % 10) ∷ [])
unfolding digits
digits_of_large m n h = rw (le-ltb n 10 h)

-- A number with at most m digits has the same digits however many more it is allowed.
pub digits_enough : (m n : ℕ) → 1 ≤ m → n < 10 ^ m → digits (suc m) n ≡ digits m n
digits_enough zero n h l = absurd (omega arith)
digits_enough (suc zero) n h l = digits_of_small 1 n l ∙ sym (digits_of_small 0 n l)
digits_enough (suc (suc m)) n h l =
    ⊎_elim (λ (g : 10 ≤ n).
    digits_of_large (suc (suc m)) n g ∙
    ap (λ (d : List ℕ). d ++ (digit_byte (n % 10) ∷ []))
    (digits_enough (suc m) (n / 10) (omega arith) ((div-lt_iff_lt-mul {k = 10} (omega arith)).1 (rw (pow-suc 10 (suc m)) at l))) ∙
    sym (digits_of_large (suc m) n g))
    (λ (g : n < 10). digits_of_small (suc (suc m)) n g ∙ sym (digits_of_small (suc m) n g)) (le_or_lt 10 n)

-- No more digits than are allowed.
pub digits_at_most : (m n : ℕ) → length (digits m n) ≤ m
unfolding digits
digits_at_most zero n = omega arith
digits_at_most (suc m) n =
    ⊎_elim (λ (g : 10 ≤ n).
    rw (digits_of_large m n g) (simp length-append (omega (arith, digits_at_most m (n / 10)))))
    (λ (g : n < 10). rw (digits_of_small m n g) (omega arith)) (le_or_lt 10 n)

-- The decimal form of a number of the table's width: its front, and its last digit.
pub decimal_of_small : (n : ℕ) → n < 10 → decimal n ≡ digit_byte n ∷ []
unfolding decimal
decimal_of_small n h = digits_of_small 9 n h

pub decimal_of_large : (n : ℕ) → 10 ≤ n → n < 2 ^ 32 → decimal n ≡ decimal (n / 10) ++ (digit_byte (n % 10) ∷ [])
unfolding decimal
decimal_of_large n h l =
    digits_of_large 9 n h ∙
    ap (λ (d : List ℕ). d ++ (digit_byte (n % 10) ∷ []))
    (sym (digits_enough 9 (n / 10) (omega arith) (omega arith)))

pub decimal_at_most_ten : (n : ℕ) → length (decimal n) ≤ 10
unfolding decimal
decimal_at_most_ten n = digits_at_most 10 n

------------------------------------------------------------------------
-- What the digits say

-- The number that a list of digit bytes stands for, read from the left.
unfoldable pub value_from : ℕ → List ℕ → ℕ
value_from v [] = v
value_from v (b ∷ bs) = value_from (v * 10 + (b - 48)) bs

value_append : (v : ℕ) (xs : List ℕ) (b : ℕ) → value_from v (xs ++ (b ∷ [])) ≡ value_from v xs * 10 + (b - 48)
unfolding value_from
value_append v [] b = refl
value_append v (x ∷ xs) b = value_append (v * 10 + (x - 48)) xs b

-- The digits of a number have its value.
pub digits_value : (m n : ℕ) → 1 ≤ m → n < 10 ^ m → value_from 0 (digits m n) ≡ n
unfolding value_from digit_byte
digits_value zero n h l = absurd (omega arith)
digits_value (suc zero) n h l = rw (digits_of_small 0 n l) (omega arith)
digits_value (suc (suc m)) n h l =
    ⊎_elim (λ (g : 10 ≤ n).
    rw (digits_of_large (suc m) n g, value_append 0 (digits (suc m) (n / 10)) (48 + n % 10), digits_value (suc m) (n / 10) (omega arith) ((div-lt_iff_lt-mul {k = 10} (omega arith)).1 (rw (pow-suc 10 (suc m)) at l))) (omega arith))
    (λ (g : n < 10). rw (digits_of_small (suc m) n g) (omega arith)) (le_or_lt 10 n)

pub decimal_value : (n : ℕ) → n < 2 ^ 32 → value_from 0 (decimal n) ≡ n
unfolding decimal
decimal_value n h = digits_value 10 n (omega arith) (omega arith)

some_digit : (m n : ℕ) → 0 < length (digits (suc m) n)
some_digit m n =
    ⊎_elim (λ (g : 10 ≤ n). rw (digits_of_large m n g) (simp length-append (omega arith)))
    (λ (g : n < 10). rw (digits_of_small m n g) (omega arith)) (le_or_lt 10 n)

-- No leading zero: the first digit of a number from 1 up is not the byte of 0.
pub digits_lead : (m n : ℕ) → 1 ≤ m → 1 ≤ n → n < 10 ^ m → get_or (digits m n) 0 48 ≡ 48 → ⊥
unfolding digit_byte
digits_lead zero n h g l e = omega arith
digits_lead (suc zero) n h g l e = let q = rw (digits_of_small 0 n l) at e in omega (arith, q)
digits_lead (suc (suc m)) n h g l e =
    ⊎_elim (λ (k : 10 ≤ n).
    let d : n / 10 < 10 ^ suc m = (div-lt_iff_lt-mul {k = 10} (omega arith)).1 (rw (pow-suc 10 (suc m)) at l) in
    digits_lead (suc m) (n / 10) (omega arith) (omega arith) d
    (sym (get_or-append (digits (suc m) (n / 10)) (digit_byte (n % 10) ∷ []) 48 0 (some_digit m (n / 10))) ∙ rw (digits_of_large (suc m) n k) at e))
    (λ (k : n < 10). let q = rw (digits_of_small (suc m) n k) at e in omega (arith, q)) (le_or_lt 10 n)

pub decimal_lead : (n : ℕ) → 1 ≤ n → n < 2 ^ 32 → get_or (decimal n) 0 48 ≡ 48 → ⊥
unfolding decimal
decimal_lead n g h e = digits_lead 10 n (omega arith) g (omega arith) e
