-- How a number is written: its one digit, its two, or its front and then its last two. Assumes nothing.
use Prim.Native.Nat.{ℕ, ◌+◌, ◌/◌, ◌%◌, ◌≤◌, ◌<◌, ◌^◌}
use native.Mathlib.Omega.{arith}
use mathlib.Core.Path.{◌≡◌, refl, sym, ap, ap₂, ◌∙◌}
use mathlib.Core.List.{List, [], ◌∷◌, ◌++◌, append_assoc}
use lib.ListN.{length, length-append}
use Rattle.lines.specs.Written.{written}
use Rattle.lines.specs.Puts.{Puts}
use Rattle.lines.specs.declared.Pen.{Pen}
use Rattle.lines.specs.Decimal.{digit_byte, pair, decimal}
use Rattle.lines.proofs.WrittenLaws.{written_then, length_written}
use Rattle.lines.proofs.PutsLaws.{HasRoom, puts_then, puts_same, puts_room}
use Rattle.lines.proofs.DecimalLaws.{decimal_of_small, decimal_of_large}

pub one_digit : (n : ℕ) → n < 10 → length (decimal n) ≡ 1
one_digit n h = ap length (decimal_of_small n h)

pub two_digits : (n : ℕ) → 10 ≤ n → n < 100 → decimal n ≡ pair n
two_digits n h l =
    decimal_of_large n h (omega arith) ∙ ap (λ (front : List ℕ). front ++ (digit_byte (n % 10) ∷ [])) (decimal_of_small (n / 10) (omega arith))

-- What stands before the last two digits, and those.
two_behind : (n : ℕ) → 100 ≤ n → n < 2 ^ 32 → decimal n ≡ decimal (n / 100) ++ pair (n % 100)
two_behind n h l =
    let front : decimal (n / 10) ≡ decimal (n / 10 / 10) ++ (digit_byte (n / 10 % 10) ∷ []) = decimal_of_large (n / 10) (omega arith) (omega arith) in
    let hundreds : n / 10 / 10 ≡ n / 100 = omega arith in
    let tens : n / 10 % 10 ≡ n % 100 / 10 = omega arith in
    let ones : n % 10 ≡ n % 100 % 10 = omega arith in
    decimal_of_large n (omega arith) l ∙ ap (λ (xs : List ℕ). xs ++ (digit_byte (n % 10) ∷ [])) front ∙
    append_assoc (decimal (n / 10 / 10)) (digit_byte (n / 10 % 10) ∷ []) (digit_byte (n % 10) ∷ []) ∙
    rw (hundreds, tens, ones) refl

pub two_more_digits : (n : ℕ) → 100 ≤ n → n < 2 ^ 32 → length (decimal n) ≡ length (decimal (n / 100)) + 2
two_more_digits n h l = ap length (two_behind n h l) ∙ simp length-append (omega arith)

-- A number of one digit.
pub small_number : {p q : Pen} (n : ℕ) {d : ℕ} → n < 10 → d ≡ digit_byte n → Puts p (d ∷ []) q → Puts p (decimal n) q
small_number n h e w = puts_same (ap (λ (x : ℕ). x ∷ []) e ∙ sym (decimal_of_small n h)) w

-- Two digits, one after the other.
pub pair_written :
    {p q r : Pen} (x : ℕ) {d e : ℕ} → HasRoom p 2 → d ≡ digit_byte (x / 10) → e ≡ digit_byte (x % 10) →
    Puts p (d ∷ []) q → Puts q (e ∷ []) r → Puts p (pair x) r
pair_written x room f g w v =
    puts_same (ap₂ (λ (a : ℕ) (b : ℕ). a ∷ b ∷ []) f g) (puts_then (omega arith) w v)

-- The front of a number, and its last two digits.
pub large_number :
    {p q r : Pen} (n : ℕ) → 100 ≤ n → n < 2 ^ 32 → HasRoom p (length (decimal n)) →
    Puts p (decimal (n / 100)) q → Puts q (pair (n % 100)) r → Puts p (decimal n) r
large_number n h l room w v =
    puts_same (sym (two_behind n h l)) (puts_then (omega (arith, two_more_digits n h l)) w v)

-- Behind its front there is room for those two.
pub room_for_two :
    {p q : Pen} (n : ℕ) → 100 ≤ n → n < 2 ^ 32 → HasRoom p (length (decimal n)) → Puts p (decimal (n / 100)) q → HasRoom q 2
room_for_two n h l room w = puts_room 2 (omega (arith, two_more_digits n h l)) w

------------------------------------------------------------------------
-- By the buffer that is left, once the pen that wrote into it is let go

-- A number that one pen wrote.
pub number_by_pen :
    {p q : Pen} {xs out : List ℕ} (n : ℕ) → decimal n ≡ xs → Puts p xs q → out ≡ q.buf.now →
    (q.at ≡ p.at + length (decimal n)) × (out ≡ written p.buf.now p.at (decimal n))
number_by_pen n d w e = rw d (w.place, e ∙ w.holds)

-- A number whose front was written before, and its last two digits by a pen behind that.
pub number_behind_front :
    {p q : Pen} {out : List ℕ} (b : List ℕ) (at n : ℕ) → 100 ≤ n → n < 2 ^ 32 → at + length (decimal n) ≤ length b →
    (p.at ≡ at + length (decimal (n / 100))) × (p.buf.now ≡ written b at (decimal (n / 100))) →
    Puts p (pair (n % 100)) q → out ≡ q.buf.now →
    (q.at ≡ at + length (decimal n)) × (out ≡ written b at (decimal n))
number_behind_front {p} b at n h l room f w e = (
  omega (arith, two_more_digits n h l, f.0, w.place),
  e ∙ w.holds ∙ rw (f.1, f.0) refl ∙ written_then b at (decimal (n / 100)) (pair (n % 100)) (omega (arith, two_more_digits n h l)) ∙
      ap (written b at) (sym (two_behind n h l)),
)

-- There is room for those two.
pub room_behind_front :
    {mid : List ℕ} {front : ℕ} (b : List ℕ) (at n : ℕ) → 100 ≤ n → n < 2 ^ 32 → at + length (decimal n) ≤ length b →
    (front ≡ at + length (decimal (n / 100))) × (mid ≡ written b at (decimal (n / 100))) → front + 2 ≤ length mid
room_behind_front b at n h l room f =
    let same = ap length f.1 ∙ length_written b at (decimal (n / 100)) (omega (arith, two_more_digits n h l)) in
    omega (arith, two_more_digits n h l, f.0, same)
