-- The reader at the header: what a judgement makes of the answer, and what the header gives to the subsystems behind it.
-- Assumes nothing.
use Prim.Native.Nat.{ℕ, ◌≤◌}
use native.Mathlib.Omega.{arith}
use mathlib.Core.Path.{◌≡◌, refl, sym, ap, ◌∙◌}
use mathlib.Core.Option.{none, some}
use mathlib.Core.List.{List}
use lib.ListN.{length, get_or}
use Rattle.std.specs.Prelude.{Result, Ok, Err}
use Rattle.table.specs.Limits.{most}
use Rattle.table.specs.Grid.{system_in, HasBlocks}
use Rattle.stored.specs.declared.Fault.{Fault}
use Rattle.stored.specs.declared.Misread.{Misread}
use Rattle.stored.specs.Answers.{FieldAnswer, ReadAnswer, whole}
use Rattle.reader.specs.declared.Head.{Head}
use Rattle.stored.specs.Field.{value_of, header_tag, header_length}
use Rattle.stored.specs.Judge.{header_in_range, judge_header}
use Rattle.stored.specs.Decode.{decoded_header}
use Rattle.stored.specs.Read.{refused_at, whole_unless, header_in, subsystem_place, body_refusal, refusal_in, table_to, table_in, read_of}
use Rattle.reader.specs.Reader.{IsBody, IsHead}
use Rattle.stored.proofs.Judging.{sound_length, sound_whole, sound_value, sound_means}
use Rattle.stored.proofs.Offsets.{part_from, part_to_the_end}
use Rattle.reader.proofs.ReadTasks.{refused_is_not_read}
use Rattle.stored.proofs.InRange.{header_counts}

module _ (file : List ℕ) (a : FieldAnswer) (judged : a ≡ judge_header (part_from file 0)) where
  header_judged : a ≡ judge_header file
  header_judged = judged ∙ ap judge_header (part_to_the_end file 0)

  -- A refusal ends the reading there, whatever the grid.
  refused_head : (why : Misread) (grid : List (List (List ℕ))) → HasBlocks grid → ◌≡◌ {A = ReadAnswer} (Err why) (read_of file).answer → IsHead file grid (Err why)
  refused_head why grid blocks q =
      record {
        answer_is = q;
        blocks = blocks;
        count_is = λ head z. absurd (refused_is_not_read why head z);
        resources_is = λ head z. absurd (refused_is_not_read why head z);
        means = λ head z. absurd (refused_is_not_read why head z);
      }

  -- So does a header that is refused.
  pub header_stops : (f : Fault) (why : Misread) (grid : List (List (List ℕ))) → HasBlocks grid → a ≡ Err f → ◌≡◌ {A = ReadAnswer} (Err why) (whole_unless (refused_at 0 a)) → IsHead file grid (Err why)
  unfolding read_of refusal_in
  header_stops f why grid blocks e q =
      let stop : refused_at 0 (judge_header file) ≡ some (f, 0) = ap (refused_at 0) (sym header_judged ∙ e) in
      refused_head why grid blocks (rw stop (q ∙ ap (λ (b : FieldAnswer). whole_unless (refused_at 0 b)) e))

  module _ (k : ℕ) (sound : a ≡ Ok k) where
    -- A header that is sound leaves the subsystems to decide.
    module _ (head : Head) (count : head.count ≡ (header_in file).count) (resources : head.resources ≡ (header_in file).resources) (grid : List (List (List ℕ))) where
      answer_of_body : (r : ReadAnswer) → IsBody file head.count head.resources grid r → r ≡ (read_of file).answer
      unfolding read_of refusal_in
      answer_of_body r b =
          let go : refused_at 0 (judge_header file) ≡ none = ap (refused_at 0) (sym header_judged ∙ sound) in
          rw go (b.answer_is ∙ λ i. whole_unless (body_refusal file (resources i) (count i)))

      pub body_stops : (why : Misread) → IsBody file head.count head.resources grid (Err why) → IsHead file grid (Err why)
      body_stops why b = refused_head why grid b.blocks (answer_of_body (Err why) b)

      pub body_decides : IsBody file head.count head.resources grid whole → IsHead file grid (Ok head)
      unfolding table_in table_to
      body_decides b =
          record {
            answer_is = answer_of_body whole b;
            blocks = b.blocks;
            count_is = λ h e. ap (λ (g : Head). g.count) (this h e) ∙ count;
            resources_is = λ h e. ap (λ (g : Head). g.resources) (this h e) ∙ resources;
            means = λ h e. ap (λ (g : Head). system_in g.count g.resources grid) (this h e) ∙ b.means refl;
          }
        where
          this : (h : Head) → ◌≡◌ {A = Result Head Misread} (Ok head) (Ok h) → h ≡ head
          this h e = cc

    pub header_is_read : (v : List ℕ) → v ≡ value_of k (part_from file 0) → (get_or v 1 0 ≡ (header_in file).count) × (get_or v 2 0 ≡ (header_in file).resources)
    unfolding header_in decoded_header
    header_is_read v w =
        let value = sound_value header_tag header_length header_in_range (part_from file 0) a k judged sound v w ∙ ap (value_of header_length) (part_to_the_end file 0) in
        (ap (λ (l : List ℕ). get_or l 1 0) value, ap (λ (l : List ℕ). get_or l 2 0) value)

    pub counts_in_range : ((header_in file).count ≤ most) × ((header_in file).resources ≤ most)
    counts_in_range =
        let counts = header_counts file (sound_means header_tag header_length header_in_range file k (sym header_judged ∙ sound)).1 in
        (counts.1, counts.2)

    pub first_subsystem_within : (m : ℕ) → subsystem_place file m 0 ≤ length file
    unfolding subsystem_place
    first_subsystem_within m =
        omega (
          arith,
          sound_length header_tag header_length header_in_range (part_from file 0) a k judged sound,
          sound_whole header_tag header_length header_in_range (part_from file 0) a k judged sound,
          ap length (part_to_the_end file 0),
        )
