-- The decimal form of a number, without leading zeros, as bytes. That it is the decimal form is in proofs/DecimalLaws.antt:
-- its digits have the number's value, and the first is no zero unless it is the only one. Assumes nothing.
use Rattle.std.specs.Prelude.{ℕ, zero, suc, ◌+◌, ◌/◌, ◌%◌, cond, List, [], ◌∷◌, ◌++◌, ltb}

-- The byte of a digit.
unfoldable pub digit_byte : ℕ → ℕ
digit_byte d = 48 + d

-- The last `most` digits that a number has at the most; fewer where the number has fewer.
unfoldable pub digits : ℕ → ℕ → List ℕ
digits zero n = []
digits (suc most) n = let front = digits most (n / 10) in cond (ltb n 10) (digit_byte n ∷ []) (front ++ (digit_byte (n % 10) ∷ []))

-- The two digits of a number below 100, the first of which may be 0.
abbrev pub pair : ℕ → List ℕ
pair n = digit_byte (n / 10) ∷ digit_byte (n % 10) ∷ []

-- A number of the table's width, below 4,294,967,296, has ten digits at the most.
unfoldable pub decimal : ℕ → List ℕ
decimal n = digits 10 n
