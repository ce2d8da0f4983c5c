-- What stands in a lent buffer after a text was made up in it: no more than the buffer holds, and where there is room, the text.
-- Assumes nothing.
use Prim.Native.Nat.{ℕ, ◌≤◌, ◌<◌}
use native.Mathlib.Omega.{arith}
use mathlib.Core.Path.{◌≡◌, refl, sym, ap, ◌∙◌}
use mathlib.Core.Bool.{Bool, true, false, cond}
use mathlib.Core.List.{List}
use borrow.Author.Tests.{ltb-false}
use lib.Dec.{ltb}
use lib.ListN.{length, take}
use Rattle.std.specs.Prelude.{Option, Some, None}
use Rattle.wording.specs.Room.{text_room}
use Rattle.text.specs.Text.{text_of, printed_of, IsPrinted}
use Rattle.text.proofs.TextShape.{text_most}
use Rattle.text.proofs.BufferLaws.{short_is_refused, length_is_answered, first_part_is_text}

pub printed_within : (file : List ℕ) (room n : ℕ) (p : Option ℕ) → p ≡ printed_of file room → p ≡ Some n → n ≤ room
unfolding printed_of
printed_within file room n p e f = go (ltb room text_room) refl (sym e ∙ f)
  where
    go : (b : Bool) → ltb room text_room ≡ b → cond b None (Some (length (text_of file))) ≡ Some n → n ≤ room
    go true r q = let z : ◌≡◌ {A = ℕ} 0 1 = cc in absurd (omega arith)
    go false r q = let k : length (text_of file) ≡ n = cc in omega (arith, text_most file, ltb-false room text_room r)

-- A shorter buffer than any text needs has no answer of a text.
pub short_has_no_text :
    (file before after : List ℕ) (n : ℕ) (p : Option ℕ) → IsPrinted file before after p → length before < text_room → p ≡ Some n → ⊥
short_has_no_text file before after n p printed short is =
    let e : None ≡ Some n = sym (short_is_refused file before short) ∙ sym printed.answered ∙ is in
    cc

module _ (file before after : List ℕ) (p : Option ℕ) (printed : IsPrinted file before after p) (room : text_room ≤ length before) where
  -- Where there is room the answer is the text's length.
  pub text_is_answered : p ≡ Some (length (text_of file))
  text_is_answered = printed.answered ∙ length_is_answered file before room

  -- And so many bytes of the buffer are the text.
  pub answered_is_text : (n : ℕ) → p ≡ Some n → take n after ≡ text_of file
  answered_is_text n is =
      let q : Some n ≡ Some (length (text_of file)) = sym is ∙ text_is_answered in
      let k : n ≡ length (text_of file) = cc in
      ap (λ (m : ℕ). take m after) k ∙ ap (take (length (text_of file))) printed.left ∙ first_part_is_text file before room
