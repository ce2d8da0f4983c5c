-- The shape of a text, apart from what it says: lines of words, one space between each word and the next, one LF at the end
-- of each line. Assumes nothing.
use Rattle.std.specs.Prelude.{ℕ, zero, suc, ◌<◌, ◌≡◌, Bool, true, ◌&&◌, List, [], ◌∷◌, ◌++◌, ltb, length}

-- The bytes that part words and end lines.
abbrev pub space : ℕ
space = 32

abbrev pub LF : ℕ
LF = 10

-- Whether each byte is above the space's, so that none is a space or an LF.
unfoldable pub shown : List ℕ → Bool
shown [] = true
shown (b ∷ bytes) = ltb space b && shown bytes

-- A word has a byte, and every byte of it is shown.
pub record IsWord (bytes : List ℕ) : Type 0 where
  pub some_byte : 0 < length bytes
  pub all_shown : shown bytes ≡ true

-- One word or more.
pub data AreWords : List (List ℕ) → Type 0 where
  last : {w : List ℕ} → IsWord w → AreWords (w ∷ [])
  more : {w : List ℕ} {ws : List (List ℕ)} → IsWord w → AreWords ws → AreWords (w ∷ ws)

-- Words with one space between each and the next.
unfoldable pub parted : List (List ℕ) → List ℕ
parted [] = []
parted (w ∷ []) = w
parted (w ∷ v ∷ ws) = w ++ (space ∷ parted (v ∷ ws))

-- The line of these words.
unfoldable pub line : List (List ℕ) → List ℕ
line ws = parted ws ++ (LF ∷ [])

-- Bytes that are so many lines.
pub data Lines : ℕ → List ℕ → Type 0 where
  no_line : Lines zero []
  one_more : {n : ℕ} {bytes : List ℕ} {ws : List (List ℕ)} → Lines n bytes → AreWords ws → Lines (suc n) (bytes ++ line ws)
