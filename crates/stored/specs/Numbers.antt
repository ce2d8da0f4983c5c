-- Numbers as bytes, high byte first, and the number that bytes spell. Assumes nothing.
use Rattle.std.specs.Prelude.{ℕ, zero, suc, ◌+◌, ◌*◌, ◌/◌, ◌%◌, ◌^◌, ◌<◌, List, [], ◌∷◌, length, get_or, take, drop}

-- The last `width` bytes of n, high byte first: byte w of n counts from the low end, from 0.
unfoldable pub big_endian : ℕ → ℕ → List ℕ
big_endian zero n = []
big_endian (suc w) n = n / 256 ^ w % 256 ∷ big_endian w n

-- The number that bytes spell, high byte first.
unfoldable pub spelled : List ℕ → ℕ
spelled [] = 0
spelled (b ∷ bs) = b * 256 ^ length bs + spelled bs

-- A time or an access takes four bytes.
abbrev pub number_size : ℕ
number_size = 4

-- The number of that many bytes that starts at an offset.
unfoldable pub number_at : List ℕ → ℕ → ℕ
number_at bytes at = spelled (take number_size (drop at bytes))

-- Every element is a byte, as in every slice of bytes that a program holds.
abbrev pub AreBytes : List ℕ → Type 0
AreBytes bytes = (i : ℕ) → get_or bytes i 0 < 256
