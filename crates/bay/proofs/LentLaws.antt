-- What each function returns and leaves in the lent buffer, by the cases that its code tells apart. Assumes nothing.
use Prim.Native.Nat.{ℕ, ◌≤◌, ◌<◌}
use mathlib.Core.Path.{◌≡◌, refl, sym, ap, ◌∙◌}
use mathlib.Core.List.{List}
use lib.ListN.{length}
use Rattle.std.specs.Prelude.{Option, Err}
use borrow.Author.Tests.{lt-ltb, le-ltb}
use Rattle.table.specs.Meaning.{meaning}
use Rattle.stored.specs.Answers.{ReadAnswer, WriteAnswer, whole}
use Rattle.stored.specs.declared.Misread.{Misread}
use Rattle.stored.specs.declared.Reading.{Reading}
use Rattle.stored.specs.Read.{read_of}
use Rattle.stored.specs.Write.{IsPut, write_of, buffer_after}
use Rattle.text.specs.Text.{IsPrinted}
use Rattle.bay.specs.Lent.{lent, filled, printed_by, text_size, put_by, rewrite_for, rewrite_left, rewrite_of, rewrite_after}
use Rattle.offsets.proofs.JudgementLaws.{answer_of}

------------------------------------------------------------------------
-- A buffer that is too short, and one that is not

module _ (size : ℕ) (bytes buf : List ℕ) where
  pub too_short : length buf < size → (0 ≡ filled size (length buf)) × (buf ≡ lent size bytes buf)
  unfolding filled lent
  too_short h = (rw (lt-ltb (length buf) size h) refl, rw (lt-ltb (length buf) size h) refl)

  pub long_enough :
      (after : List ℕ) (n : ℕ) → size ≤ length buf → length bytes ≡ size → IsPut bytes buf after n →
      (n ≡ filled size (length buf)) × (after ≡ lent size bytes buf)
  unfolding filled lent
  long_enough after n h e put = (
    rw (le-ltb (length buf) size h) (put.counted ∙ e),
    rw (le-ltb (length buf) size h) put.left,
  )

------------------------------------------------------------------------
-- The text

pub text_is_printed :
    (file buf after : List ℕ) (p : Option ℕ) (n : ℕ) → IsPrinted file buf after p → n ≡ printed_by p →
    n ≡ text_size file (length buf)
unfolding text_size
text_is_printed file buf after p n h e = e ∙ ap printed_by h.answered

------------------------------------------------------------------------
-- A file that is read

module _ (file : List ℕ) (reading : Reading) (e : reading ≡ read_of file) where
  same_answer : reading.answer ≡ (read_of file).answer
  same_answer = ap (λ (r : Reading). r.answer) e

  -- What is written back of a refused file, and of a file that is a table.
  pub refused_rewrite :
      (buf : List ℕ) (why : Misread) → reading.answer ≡ Err why →
      (0 ≡ rewrite_of file (length buf)) × (buf ≡ rewrite_after file buf)
  unfolding rewrite_of rewrite_after
  refused_rewrite buf why h =
      let a : (read_of file).answer ≡ Err why = answer_of file reading.answer same_answer (Err why) h in (
        sym (ap (λ (x : ReadAnswer). rewrite_for x (meaning (read_of file).table) (length buf)) a),
        sym (ap (λ (x : ReadAnswer). rewrite_left x (meaning (read_of file).table) buf) a),
      )

  pub read_rewrite :
      (buf after : List ℕ) (w : WriteAnswer) (n : ℕ) → reading.answer ≡ whole →
      w ≡ write_of (meaning reading.table) (length buf) → after ≡ buffer_after (meaning reading.table) buf → n ≡ put_by w →
      (n ≡ rewrite_of file (length buf)) × (after ≡ rewrite_after file buf)
  unfolding rewrite_of rewrite_after
  read_rewrite buf after w n h q l g =
      let a : (read_of file).answer ≡ whole = answer_of file reading.answer same_answer whole h in (
        g ∙ ap put_by (q ∙ ap (λ (r : Reading). write_of (meaning r.table) (length buf)) e) ∙
            sym (ap (λ (x : ReadAnswer). rewrite_for x (meaning (read_of file).table) (length buf)) a),
        l ∙ ap (λ (r : Reading). buffer_after (meaning r.table) buf) e ∙
            sym (ap (λ (x : ReadAnswer). rewrite_left x (meaning (read_of file).table) buf) a),
      )
