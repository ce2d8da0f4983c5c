-- Bytes that stand at an offset of a file: parts of parts, elements of a list, and fields that are judged where they
-- stand. Assumes nothing.
use Prim.Native.Nat.{ℕ, ◌+◌, ◌<◌}
use mathlib.Core.Path.{◌≡◌, sym, ap, ◌∙◌}
use mathlib.Core.Bool.{Bool, true}
use mathlib.Core.List.{List, [], ◌++◌, append_assoc, append-nil, flat_map}
use lib.ListN.{length, drop}
use lib.Seq.{drop_at, drop-drop}
use Rattle.std.specs.Prelude.{Ok}
use Rattle.lists.specs.Range.{up_to}
use Rattle.stored.specs.Field.{field, value_of}
use Rattle.stored.specs.Judge.{judge_field}
use Rattle.stored.proofs.Judging.{sound_is}
use Rattle.stored.proofs.FileLaws.{flat_map_split}
use Rattle.stored.proofs.FieldLaws.{value_of_field, field_is_sound}

-- The bytes stand at the offset, and something behind them.
abbrev pub Stands : List ℕ → ℕ → List ℕ → Type 0
Stands file at bytes = (tail : List ℕ) × (drop at file ≡ bytes ++ tail)

pub file_stands : (file : List ℕ) → Stands file 0 file
file_stands file = ([], sym (append-nil file))

module _ (file : List ℕ) (at : ℕ) where
  pub first_stands : (a b : List ℕ) → Stands file at (a ++ b) → Stands file at a
  first_stands a b st = (b ++ st.0, st.1 ∙ append_assoc a b st.0)

  pub second_stands : (a b : List ℕ) (k : ℕ) → length a ≡ k → Stands file at (a ++ b) → Stands file (at + k) b
  second_stands a b k size st = (
    st.0,
    sym (drop-drop k at file) ∙
        ap (drop k) (st.1 ∙ append_assoc a b st.0) ∙
        drop_at a (b ++ st.0) k size,
  )

  -- The bytes of element i of a list stand behind those of the elements before it.
  pub element_stands : {A : Type 0} (g : A → List ℕ) (f : ℕ → A) (n i k : ℕ) → i < n → length (flat_map g (up_to f i)) ≡ k → Stands file at (flat_map g (up_to f n)) → Stands file (at + k) (g (f i))
  element_stands g f n i k h size st =
      let split = flat_map_split g f n i h in
      let whole : Stands file at (flat_map g (up_to f i) ++ (g (f i) ++ split.0)) = (st.0, st.1 ∙ ap (λ (l : List ℕ). l ++ st.0) split.1) in
      let behind = second_stands (flat_map g (up_to f i)) (g (f i) ++ split.0) k size whole in
      (split.0 ++ behind.0, behind.1 ∙ append_assoc (g (f i)) split.0 behind.0)

  -- A field where it is due is sound, and its value is the one that was put.
  module _ (tag due : ℕ) (v : List ℕ) (size : length v ≡ due) (st : Stands file at (field tag v)) where
    pub field_judged : (in_range : List ℕ → Bool) → due < 65536 → in_range v ≡ true → judge_field tag due in_range (drop at file) ≡ Ok due
    field_judged in_range h r =
        ap (judge_field tag due in_range) st.1 ∙
        sound_is tag due in_range (field tag v ++ st.0) (field_is_sound tag due v st.0 size in_range h r)

    pub field_valued : value_of due (drop at file) ≡ v
    field_valued = ap (value_of due) st.1 ∙ value_of_field tag due v st.0 size
