-- The lines that `check` prints are words, with one space between each and the next, and one LF. Assumes nothing.
use Prim.Native.Nat.{ℕ, zero, suc, ◌+◌, ◌/◌, ◌%◌, ◌≤◌, ◌<◌}
use Prim.Native.String.{String}
use native.Mathlib.Omega.{arith}
use mathlib.Core.Path.{◌≡◌, refl, sym, ap, ap₂, ◌∙◌}
use mathlib.Core.Logic.{⊎_elim}
use mathlib.Core.Bool.{Bool, true, false, ◌&&◌}
use mathlib.Core.List.{List, [], ◌∷◌, ◌++◌, append_assoc}
use borrow.Author.Tests.{lt-ltb}
use lib.Dec.{ltb}
use lib.ListN.{length, length-append}
use Rattle.lists.proofs.Over.{le_or_lt}
use Rattle.lines.specs.Decimal.{digit_byte, digits, decimal}
use Rattle.lines.specs.Words.{word}
use Rattle.lines.proofs.DecimalLaws.{digits_of_small, digits_of_large}
use Rattle.rules.specs.Refusal.{Refusal}
use Rattle.stored.specs.declared.FileRefusal.{FileRefusal}
use Rattle.wording.specs.Lines.{figure, refused_file, refused_table, verdict}
use Rattle.wording.specs.Shape.{space, LF, shown, IsWord, AreWords, last, more, parted, line}

------------------------------------------------------------------------
-- Numbers are words

shown_append : (xs ys : List ℕ) → shown xs ≡ true → shown ys ≡ true → shown (xs ++ ys) ≡ true
unfolding shown
shown_append [] ys h g = g
shown_append (x ∷ xs) ys h g = behind (ltb space x) (λ k. shown_append xs ys k g) h
  where
    behind : (b : Bool) → (shown xs ≡ true → shown (xs ++ ys) ≡ true) → b && shown xs ≡ true → b && shown (xs ++ ys) ≡ true
    behind true later e = later e
    behind false later e = e

digit_is_word : (d : ℕ) → IsWord (digit_byte d ∷ [])
unfolding shown digit_byte
digit_is_word d = record { some_byte = omega arith; all_shown = rw (lt-ltb space (48 + d) (omega arith)) refl }

word_behind_word : (v w : List ℕ) → IsWord v → IsWord w → IsWord (v ++ w)
word_behind_word v w h g =
    record {
      some_byte = simp length-append (omega (arith, h.some_byte));
      all_shown = shown_append v w h.all_shown g.all_shown;
    }

digits_are_word : (m n : ℕ) → IsWord (digits (suc m) n)
unfolding digits
digits_are_word zero n =
    ⊎_elim (λ (g : 10 ≤ n). rw (digits_of_large 0 n g) (digit_is_word (n % 10)))
    (λ (g : n < 10). rw (digits_of_small 0 n g) (digit_is_word n)) (le_or_lt 10 n)
digits_are_word (suc m) n =
    ⊎_elim (λ (g : 10 ≤ n). rw (digits_of_large (suc m) n g) (word_behind_word (digits (suc m) (n / 10)) (digit_byte (n % 10) ∷ []) (digits_are_word m (n / 10)) (digit_is_word (n % 10))))
    (λ (g : n < 10). rw (digits_of_small (suc m) n g) (digit_is_word n)) (le_or_lt 10 n)

pub number_is_word : (n : ℕ) → IsWord (decimal n)
unfolding decimal
number_is_word n = digits_are_word 9 n

------------------------------------------------------------------------
-- Words behind words

pub one_word : (w : List ℕ) → w ≡ parted (w ∷ [])
unfolding parted
one_word w = refl

pub parted_more : (w : List ℕ) (ws : List (List ℕ)) (v : List ℕ) → parted (w ∷ ws) ++ (space ∷ v) ≡ parted (w ∷ (ws ++ (v ∷ [])))
unfolding parted
parted_more w [] v = refl
parted_more w (u ∷ ws) v =
    append_assoc w (space ∷ parted (u ∷ ws)) (space ∷ v) ∙ ap (λ (l : List ℕ). w ++ (space ∷ l)) (parted_more u ws v)

-- A word and a number behind words are two words more.
pub figure_behind :
    {bytes : List ℕ} (w : List ℕ) (ws : List (List ℕ)) (label : String) (name : List ℕ) (n : ℕ) →
    figure label n ≡ (space ∷ name) ++ (space ∷ decimal n) → bytes ≡ parted (w ∷ ws) →
    bytes ++ figure label n ≡ parted (w ∷ (ws ++ (name ∷ []) ++ (decimal n ∷ [])))
figure_behind {bytes} w ws label name n e h =
    ap₂ ◌++◌ h e ∙ sym (append_assoc (parted (w ∷ ws)) (space ∷ name) (space ∷ decimal n)) ∙
    ap (λ (l : List ℕ). l ++ (space ∷ decimal n)) (parted_more w ws name) ∙ parted_more w (ws ++ (name ∷ [])) (decimal n)

-- The end of a line behind words.
pub line_ends : {bytes : List ℕ} (ws : List (List ℕ)) → bytes ≡ parted ws → bytes ++ word "\n" ≡ line ws
unfolding line word
line_ends ws h = ap (λ (l : List ℕ). l ++ (LF ∷ [])) h

-- Letters are shown: this is computed.
pub letters : (name : String) → 0 < length (word name) → shown (word name) ≡ true → IsWord (word name)
letters name h g = record { some_byte = h; all_shown = g }

------------------------------------------------------------------------
-- The words of each line

abbrev pub refused_file_words : FileRefusal → List (List ℕ)
refused_file_words r = word "refused" ∷ decimal r.number ∷ word "at" ∷ decimal r.offset ∷ []

abbrev pub refused_table_words : Refusal → List (List ℕ)
refused_table_words r =
    word "refused" ∷ decimal r.number ∷ word "at" ∷ decimal r.subsystem ∷ decimal r.task ∷ []

refused_start : (n : ℕ) → figure "refused " n ≡ parted (word "refused" ∷ decimal n ∷ [])
unfolding figure word parted
refused_start n = refl

pub refused_file_line : (r : FileRefusal) → refused_file r ≡ line (refused_file_words r)
unfolding refused_file figure word
refused_file_line r =
    line_ends (refused_file_words r)
    (figure_behind (word "refused") (decimal r.number ∷ []) " at " (word "at") r.offset refl (refused_start r.number))

pub refused_file_words_lem : (r : FileRefusal) → AreWords (refused_file_words r)
unfolding word shown
refused_file_words_lem r =
    more (letters "refused" (omega arith) refl)
    (more (number_is_word r.number) (more (letters "at" (omega arith) refl) (last (number_is_word r.offset))))

pub refused_table_line : (r : Refusal) → refused_table r ≡ line (refused_table_words r)
unfolding refused_table figure word
refused_table_line r =
    line_ends (refused_table_words r)
    (ap (λ (l : List ℕ). l ++ (space ∷ decimal r.task))
    (figure_behind (word "refused") (decimal r.number ∷ []) " at " (word "at") r.subsystem refl (refused_start r.number)) ∙
    parted_more (word "refused") (decimal r.number ∷ word "at" ∷ decimal r.subsystem ∷ []) (decimal r.task))

pub refused_table_words_lem : (r : Refusal) → AreWords (refused_table_words r)
unfolding word shown
refused_table_words_lem r =
    more (letters "refused" (omega arith) refl)
    (more (number_is_word r.number)
    (more (letters "at" (omega arith) refl) (more (number_is_word r.subsystem) (last (number_is_word r.task)))))

abbrev pub verdict_words : Bool → List (List ℕ)
verdict_words true = word "accepted" ∷ []
verdict_words false = word "rejected" ∷ []

pub verdict_line : (b : Bool) → verdict b ≡ line (verdict_words b)
unfolding word line parted
verdict_line true = refl
verdict_line false = refl

pub verdict_words_lem : (b : Bool) → AreWords (verdict_words b)
unfolding word shown
verdict_words_lem true = last (letters "accepted" (omega arith) refl)
verdict_words_lem false = last (letters "rejected" (omega arith) refl)
