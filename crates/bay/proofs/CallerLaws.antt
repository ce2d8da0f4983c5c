-- What a foreign caller may rely on, beside what each contract says: when a number is 0, and what is written back.
-- Assumes nothing.
use Prim.Native.Nat.{ℕ, ◌≤◌, ◌<◌}
use native.Mathlib.Omega.{arith}
use borrow.Author.Tests.{lt-ltb, le-ltb}
use mathlib.Core.Path.{◌≡◌, refl, ap}
use mathlib.Core.Logic.{◌↔◌}
use mathlib.Core.List.{List, [], ◌∷◌}
use lib.ListN.{length, length-append}
use Rattle.std.specs.Prelude.{Ok, Err}
use Rattle.table.specs.Meaning.{System, meaning}
use Rattle.rules.specs.declared.Rule.{Rule}
use Rattle.rules.specs.declared.Rule.TheVariants.{Counts, Range, Order, Access, Overrun}
use Rattle.rules.specs.Judged.{Judged, admitted, refused}
use Rattle.rules.specs.Rules.{judge_of}
use Rattle.stored.specs.declared.Fault.{Fault}
use Rattle.stored.specs.declared.Fault.TheVariants.{Short, OtherTag, OtherLength, OutOfRange, LeftOver}
use Rattle.stored.specs.Answers.{ReadAnswer, whole, refused as refused_file}
use Rattle.stored.specs.Numbers.{AreBytes}
use Rattle.stored.specs.File.{file_of}
use Rattle.stored.specs.Read.{read_of}
use Rattle.stored.specs.Write.{written, write_of, buffer_after}
use Rattle.stored.proofs.RoundTrips.{read_file_is_the_file}
use Rattle.text.specs.Text.{text_of}
use Rattle.wording.specs.Room.{text_room}
use Rattle.wording.specs.Shape.{LF}
use Rattle.text.proofs.BufferLaws.{length_is_answered}
use Rattle.text.proofs.TextShape.{text_ends_in_LF}
use Rattle.offsets.specs.Judgement.{table_judgement, judgement_for, judgement_of}
use Rattle.bay.specs.Lent.{printed_by, text_size, rewrite_of, rewrite_after}
use Rattle.stored.proofs.WholeCounts.{read_counts_pass}

------------------------------------------------------------------------
-- The text: 0 says that the buffer is too short, and nothing else

pub some_text : (file : List ℕ) → 0 < length (text_of file)
some_text file =
    let e = text_ends_in_LF file in omega (arith, ap length e.1, length-append e.0 (LF ∷ []))

pub text_is_counted : (file buf : List ℕ) → text_room ≤ length buf → text_size file (length buf) ≡ length (text_of file)
unfolding text_size
text_is_counted file buf h = ap printed_by (length_is_answered file buf h)

------------------------------------------------------------------------
-- The number: 0 says that the table is admitted, and nothing else

rule_has_number : (k : Rule) (x y : ℕ) → (table_judgement (refused k (record { subsystem = x; task = y }))).number ≡ 0 → ⊥
unfolding table_judgement
rule_has_number Counts x y e = omega (arith, e)
rule_has_number Range x y e = omega (arith, e)
rule_has_number Order x y e = omega (arith, e)
rule_has_number Access x y e = omega (arith, e)
rule_has_number Overrun x y e = omega (arith, e)

fault_has_number : (f : Fault) (at : ℕ) (sys : System) → (judgement_for (refused_file f at) sys).number ≡ 0 → ⊥
fault_has_number Short at sys e = omega (arith, e)
fault_has_number OtherTag at sys e = omega (arith, e)
fault_has_number OtherLength at sys e = omega (arith, e)
fault_has_number OutOfRange at sys e = omega (arith, e)
fault_has_number LeftOver at sys e = omega (arith, e)

admitted_if_0 : (j : Judged) → (table_judgement j).number ≡ 0 → j ≡ admitted
admitted_if_0 (Ok _) e = refl
admitted_if_0 (Err r) e = absurd (rule_has_number r.rule r.place.subsystem r.place.task e)

whole_if_0 : (a : ReadAnswer) (sys : System) → (judgement_for a sys).number ≡ 0 → (a ≡ whole) × (judge_of sys ≡ admitted)
whole_if_0 (Ok _) sys e = (refl, admitted_if_0 (judge_of sys) e)
whole_if_0 (Err r) sys e = absurd (fault_has_number r.fault r.offset sys e)

pub number_0_exactly :
    (file : List ℕ) →
    ((judgement_of file).number ≡ 0) ↔ (((read_of file).answer ≡ whole) × (judge_of (meaning (read_of file).table) ≡ admitted))
unfolding judgement_of table_judgement
number_0_exactly file =
    (whole_if_0 (read_of file).answer (meaning (read_of file).table), λ h. rw (h.0, h.1) refl)

------------------------------------------------------------------------
-- What is written back

module _ (file buf : List ℕ) where
  pub refused_is_not_written :
      (f : Fault) (at : ℕ) → (read_of file).answer ≡ refused_file f at →
      (rewrite_of file (length buf) ≡ 0) × (rewrite_after file buf ≡ buf)
  unfolding rewrite_of rewrite_after
  refused_is_not_written f at h = (rw h refl, rw h refl)

  module _ (bytes : AreBytes file) (is_whole : (read_of file).answer ≡ whole) where
    same : file_of (meaning (read_of file).table) ≡ file
    same = read_file_is_the_file file bytes is_whole

    -- A file that is a table comes back as it is, where there is room for it.
    pub written_back : length file ≤ length buf → (rewrite_of file (length buf) ≡ length file) × (rewrite_after file buf ≡ written file buf)
    unfolding rewrite_of rewrite_after write_of buffer_after
    written_back h =
        let counts = read_counts_pass file is_whole in
        (rw (is_whole, counts, same, le-ltb (length buf) (length file) h) refl, rw (is_whole, counts, same, le-ltb (length buf) (length file) h) refl)

    pub no_room_to_write_back : length buf < length file → (rewrite_of file (length buf) ≡ 0) × (rewrite_after file buf ≡ buf)
    unfolding rewrite_of rewrite_after write_of buffer_after
    no_room_to_write_back h =
        let counts = read_counts_pass file is_whole in
        (rw (is_whole, counts, same, lt-ltb (length buf) (length file) h) refl, rw (is_whole, counts, same, lt-ltb (length buf) (length file) h) refl)
