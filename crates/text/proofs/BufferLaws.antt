-- What a caller may rely on after a call: one answer and one contents of the buffer, and where there is room, the text first and
-- behind it what the buffer held. Assumes nothing.
use Prim.Native.Nat.{ℕ, ◌≤◌, ◌<◌}
use native.Mathlib.Nat.{zero-add}
use native.Mathlib.Omega.{arith}
use mathlib.Core.Path.{◌≡◌, refl, sym, ap, ◌∙◌}
use mathlib.Core.List.{List, ◌++◌}
use borrow.Author.Tests.{lt-ltb, le-ltb}
use lib.ListN.{length, take, drop}
use lib.Seq.{take_at}
use Rattle.std.specs.Prelude.{Option, Some, None}
use Rattle.lines.specs.Written.{written}
use Rattle.lines.proofs.WrittenLaws.{length_written}
use Rattle.wording.specs.Room.{text_room}
use Rattle.text.specs.Text.{text_of, printed_of, left_by, buffer_after, IsPrinted}
use Rattle.text.proofs.TextShape.{text_most}

-- The contract of a call admits one answer and one contents of the buffer.
pub printed_once :
    (file before after after' : List ℕ) (a a' : Option ℕ) → IsPrinted file before after a → IsPrinted file before after' a' →
    (a ≡ a') × (after ≡ after')
printed_once file before after after' a a' p q = (p.answered ∙ sym q.answered, p.left ∙ sym q.left)

module _ (file buf : List ℕ) where
  -- A buffer that is too short stays as it was.
  module _ (h : length buf < text_room) where
    pub short_is_refused : printed_of file (length buf) ≡ None
    unfolding printed_of
    short_is_refused = rw (lt-ltb (length buf) text_room h)

    pub short_is_untouched : buffer_after file buf ≡ buf
    unfolding buffer_after
    short_is_untouched = ap (λ (p : Option ℕ). left_by p (text_of file) buf) short_is_refused

  -- Any other holds the text first, and behind it what it held.
  module _ (h : text_room ≤ length buf) where
    pub length_is_answered : printed_of file (length buf) ≡ Some (length (text_of file))
    unfolding printed_of
    length_is_answered = rw (le-ltb (length buf) text_room h)

    pub text_is_written : buffer_after file buf ≡ written buf 0 (text_of file)
    unfolding buffer_after
    text_is_written = ap (λ (p : Option ℕ). left_by p (text_of file) buf) length_is_answered

    pub text_then_rest : buffer_after file buf ≡ text_of file ++ drop (length (text_of file)) buf
    unfolding written
    text_then_rest = text_is_written ∙ ap (λ (k : ℕ). text_of file ++ drop k buf) (zero-add (length (text_of file)))

    -- So many bytes of the buffer as the answer says are the text.
    pub first_part_is_text : take (length (text_of file)) (buffer_after file buf) ≡ text_of file
    first_part_is_text =
        ap (take (length (text_of file))) text_then_rest ∙
        take_at (text_of file) (drop (length (text_of file)) buf) (length (text_of file)) refl

    pub length_stays : length (buffer_after file buf) ≡ length buf
    length_stays = ap length text_is_written ∙ length_written buf 0 (text_of file) (omega (arith, text_most file))
