-- Laws of numbers as bytes: bytes and the number that they spell determine each other. Assumes nothing.
use Prim.Native.Nat.{ℕ, zero, suc, ◌+◌, ◌*◌, ◌/◌, ◌%◌, ◌^◌, ◌≤◌, ◌<◌}
use native.Mathlib.Nat.{mod-lt, mod-eq_of_lt, mul_assoc, pow-succ', div-one, mod-one, pow-le-pow_right, mul-add-div_right, mul-add-mod_self_right}
use native.Mathlib.Numerals.{add-one, add-two, add-three}
use native.Mathlib.Omega.{arith}
use mathlib.Core.Path.{◌≡◌, refl, sym, ap, ap₂, ◌∙◌}
use mathlib.Core.List.{List, [], ◌∷◌}
use lib.Arith.{digits_div, digits_lt, mod-mul}
use lib.ListN.{length, get_or}
use lib.Seq.{drop-cons}
use Rattle.stored.specs.Numbers.{big_endian, spelled, number_at, AreBytes}

------------------------------------------------------------------------
-- Bytes of a number

pub length_big_endian : (w n : ℕ) → length (big_endian w n) ≡ w
unfolding big_endian
length_big_endian zero n = refl
length_big_endian (suc w) n = ap suc (length_big_endian w n)

pub big_endian_are_bytes : (w n : ℕ) → AreBytes (big_endian w n)
unfolding big_endian
big_endian_are_bytes zero n i = omega arith
big_endian_are_bytes (suc w) n zero = mod-lt (n / 256 ^ w) (omega arith)
big_endian_are_bytes (suc w) n (suc i) = big_endian_are_bytes w n i

256_to_pos : (w : ℕ) → 0 < 256 ^ w
256_to_pos w = pow-le-pow_right {n = 256} (omega arith) {i = 0} {j = w} (omega arith)

-- Only the last w bytes of a number matter.
big_endian_low : (w q r : ℕ) → big_endian w (q * 256 ^ w + r) ≡ big_endian w r
unfolding big_endian
big_endian_low zero q r = refl
big_endian_low (suc w) q r =
    rw (pow-succ' 256 w, ← mul_assoc q 256 (256 ^ w))
    (ap₂ (λ (b : ℕ) (bs : List ℕ). b ∷ bs)
    (ap (λ (x : ℕ). x % 256) (mul-add-div_right (256_to_pos w) (q * 256) r) ∙
    mul-add-mod_self_right q 256 (r / 256 ^ w))
    (big_endian_low w (q * 256) r))

------------------------------------------------------------------------
-- The number that bytes spell

pub spelled_below : (bs : List ℕ) → AreBytes bs → spelled bs < 256 ^ length bs
unfolding spelled
spelled_below [] h = omega arith
spelled_below (b ∷ bs) h =
    rw (pow-succ' 256 (length bs)) (digits_lt {m = 256} {c = 256 ^ length bs} (h 0) (spelled_below bs (λ i. h (suc i))))

spelled_of_low : (w n : ℕ) → spelled (big_endian w n) ≡ n % 256 ^ w
unfolding spelled big_endian
spelled_of_low zero n = sym (mod-one n)
spelled_of_low (suc w) n =
    rw (length_big_endian w n, pow-succ' 256 w, spelled_of_low w n)
    (sym (mod-mul n {m = 256} {c = 256 ^ w} (omega arith) (256_to_pos w)))

-- A number's bytes spell it, where it has no more bytes than that.
pub spelled_of_big_endian : (w n : ℕ) → n < 256 ^ w → spelled (big_endian w n) ≡ n
spelled_of_big_endian w n h = spelled_of_low w n ∙ mod-eq_of_lt h

-- Bytes are those of the number that they spell.
pub big_endian_of_spelled : (bs : List ℕ) → AreBytes bs → big_endian (length bs) (spelled bs) ≡ bs
unfolding big_endian spelled
big_endian_of_spelled [] h = refl
big_endian_of_spelled (b ∷ bs) h =
    ap₂ (λ (x : ℕ) (xs : List ℕ). x ∷ xs)
    (ap (λ (x : ℕ). x % 256) (digits_div b (spelled_below bs (λ i. h (suc i)))) ∙ mod-eq_of_lt (h 0))
    (big_endian_low (length bs) b (spelled bs) ∙ big_endian_of_spelled bs (λ i. h (suc i)))

------------------------------------------------------------------------
-- Four bytes at an offset

spelled_four : (a b c d : ℕ) → spelled (a ∷ b ∷ c ∷ d ∷ []) ≡ a * 16777216 + b * 65536 + c * 256 + d
unfolding spelled
spelled_four a b c d = omega arith

number_of_four : (bs : List ℕ) (at : ℕ) → at + 4 ≤ length bs → number_at bs at ≡ get_or bs at 0 * 16777216 + get_or bs (at + 1) 0 * 65536 + get_or bs (at + 2) 0 * 256 + get_or bs (at + 3) 0
unfolding number_at
number_of_four bs at h =
    rw (
      add-one,
      add-two,
      add-three,
      drop-cons bs at 0 (omega arith),
      drop-cons bs (suc at) 0 (omega arith),
      drop-cons bs (suc (suc at)) 0 (omega arith),
      drop-cons bs (suc (suc (suc at))) 0 (omega arith),
    )
    (spelled_four (get_or bs at 0) (get_or bs (suc at) 0) (get_or bs (suc (suc at)) 0) (get_or bs (suc (suc (suc at))) 0))

-- Four bytes, each weighed by its place, make the number that they spell.
pub four_bytes_spell : (bs : List ℕ) (at a b c d : ℕ) → at + 4 ≤ length bs → a ≡ get_or bs at 0 → b ≡ get_or bs (at + 1) 0 → c ≡ get_or bs (at + 2) 0 → d ≡ get_or bs (at + 3) 0 → a * 16777216 + b * 65536 + c * 256 + d ≡ number_at bs at
four_bytes_spell bs at a b c d h ea eb ec ed = rw (ea, eb, ec, ed) (sym (number_of_four bs at h))

pub big_endian_four : (x : ℕ) → big_endian 4 x ≡ x / 16777216 % 256 ∷ x / 65536 % 256 ∷ x / 256 % 256 ∷ x % 256 ∷ []
unfolding big_endian
big_endian_four x = ap (λ (y : ℕ). x / 16777216 % 256 ∷ x / 65536 % 256 ∷ x / 256 % 256 ∷ y % 256 ∷ []) (div-one x)
