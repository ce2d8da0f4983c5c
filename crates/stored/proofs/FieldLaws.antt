-- Laws of fields and values, both ways: what a field says is what was put into it, and a sound field is the field of
-- what it says. Assumes nothing.
use Prim.Native.Nat.{ℕ, zero, suc, ◌+◌, ◌^◌, ◌≤◌, ◌<◌}
use native.Mathlib.Omega.{arith}
use mathlib.Core.Path.{◌≡◌, refl, sym, ap, ap₂, ◌∙◌}
use mathlib.Core.Bool.{Bool, true}
use mathlib.Core.List.{List, [], ◌∷◌, ◌++◌}
use lib.ListN.{length, get_or, take, drop, length-append, length-drop, length-take}
use lib.Seq.{take_at, drop_at, take-add, get_or-drop}
use Rattle.stored.specs.Numbers.{big_endian, spelled, number_size, number_at, AreBytes}
use Rattle.stored.specs.Field.{start_size, field_size, field, tag_of, stated_length, value_of}
use Rattle.stored.specs.File.{number_bytes}
use Rattle.stored.proofs.Numbers.{length_big_endian, spelled_of_big_endian, big_endian_of_spelled}
use Rattle.stored.proofs.Judging.{SoundField, length_value_of}
use Rattle.stored.proofs.FileLaws.{length_field}

------------------------------------------------------------------------
-- A field at the start of the rest of a file

module _ (tag due : ℕ) (v tail : List ℕ) (size : length v ≡ due) where
  pub value_of_field : value_of due (field tag v ++ tail) ≡ v
  unfolding value_of field big_endian
  value_of_field = take_at v tail due size

  stated_of_field : due < 65536 → stated_length (field tag v ++ tail) ≡ due
  unfolding stated_length field big_endian
  stated_of_field h = spelled_of_big_endian 2 (length v) (rw size h) ∙ size

  whole_of_field : field_size due ≤ length (field tag v ++ tail)
  whole_of_field = rw (length-append, length_field tag v, size) (omega arith)

  -- A field is judged sound where it is due and its value is in range.
  pub field_is_sound : (in_range : List ℕ → Bool) → due < 65536 → in_range v ≡ true → SoundField tag due in_range (field tag v ++ tail)
  unfolding tag_of field
  field_is_sound in_range h r =
      record {
        tagged = refl;
        measured = stated_of_field h;
        whole = whole_of_field;
        ranged = ap in_range value_of_field ∙ r;
      }

------------------------------------------------------------------------
-- Bytes of parts

pub bytes_of_part : (xs : List ℕ) (k a : ℕ) → AreBytes xs → AreBytes (take k (drop a xs))
bytes_of_part xs k a h i = go (drop a xs) (λ j. rw get_or-drop (h (a + j))) k i
  where
    go : (ys : List ℕ) → AreBytes ys → (k i : ℕ) → get_or (take k ys) i 0 < 256
    go ys b zero i = omega arith
    go [] b (suc k) i = omega arith
    go (y ∷ ys) b (suc k) zero = b 0
    go (y ∷ ys) b (suc k) (suc i) = go ys (λ j. b (suc j)) k i

------------------------------------------------------------------------
-- A sound field is the field of its value

start_of_three : (rest : List ℕ) → start_size ≤ length rest → take start_size rest ≡ get_or rest 0 0 ∷ take 2 (drop 1 rest)
start_of_three [] h = absurd (omega arith)
start_of_three (x ∷ rest) h = refl

module _ (tag due : ℕ) (in_range : List ℕ → Bool) (rest : List ℕ) (sound : SoundField tag due in_range rest) (bytes : AreBytes rest) where
  length_bytes : big_endian 2 due ≡ take 2 (drop 1 rest)
  unfolding stated_length
  length_bytes =
      let two : length (take 2 (drop 1 rest)) ≡ 2 = simp (length-take, length-drop) (omega (arith, sound.whole)) in
      rw (← sound.measured)
      (ap (λ (k : ℕ). big_endian k (stated_length rest)) (sym two) ∙
      big_endian_of_spelled (take 2 (drop 1 rest)) (bytes_of_part rest 2 1 bytes))

  pub sound_is_field : take (field_size due) rest ≡ field tag (value_of due rest)
  unfolding tag_of field value_of
  sound_is_field =
      take-add start_size due rest ∙
      ap (λ (l : List ℕ). l ++ take due (drop start_size rest))
      (start_of_three rest (omega (arith, sound.whole)) ∙
      ap₂ (λ (x : ℕ) (l : List ℕ). x ∷ l) sound.tagged (sym length_bytes)) ∙
      ap (λ (k : ℕ). (tag ∷ big_endian 2 k) ++ take due (drop start_size rest))
      (sym (length_value_of due rest sound.whole))

------------------------------------------------------------------------
-- Numbers in a value

-- A number behind other bytes is read as it was put.
pub number_behind : (pre tail : List ℕ) (x at : ℕ) → length pre ≡ at → x < 2 ^ 32 → number_at (pre ++ (number_bytes x ++ tail)) at ≡ x
unfolding number_at number_bytes
number_behind pre tail x at n h =
    ap (λ (l : List ℕ). spelled (take number_size l)) (drop_at pre (big_endian number_size x ++ tail) at n) ∙
    ap spelled (take_at (big_endian number_size x) tail number_size (length_big_endian number_size x)) ∙
    spelled_of_big_endian number_size x h

-- The bytes of the number that is read are those that stand there.
pub bytes_of_number : (v : List ℕ) (at : ℕ) → AreBytes v → at + number_size ≤ length v → number_bytes (number_at v at) ≡ take number_size (drop at v)
unfolding number_at number_bytes
bytes_of_number v at bytes h =
    let four : length (take number_size (drop at v)) ≡ number_size = simp (length-take, length-drop) (omega arith) in
    ap (λ (k : ℕ). big_endian k (spelled (take number_size (drop at v)))) (sym four) ∙
    big_endian_of_spelled (take number_size (drop at v)) (bytes_of_part v number_size at bytes)
