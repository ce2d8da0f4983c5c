-- The reader at the subsystems: what it knows before each, and what a judgement makes of that. Assumes nothing.
use Prim.Native.Nat.{ℕ, ◌+◌, ◌-◌, ◌≤◌, ◌<◌}
use native.Mathlib.Nat.{sub-zero}
use native.Mathlib.Numerals.{add-one}
use native.Mathlib.Omega.{arith}
use borrow.Author.Tests.{lt-ltb, le-ltb}
use mathlib.Core.Path.{◌≡◌, refl, sym, ap, ◌∙◌}
use mathlib.Core.Logic.{◌≢◌}
use mathlib.Core.Option.{Option, none, some, some-ne-none}
use mathlib.Core.List.{List, []}
use lib.ListN.{length, drop, set}
use Rattle.std.specs.Prelude.{Result, Ok, Err}
use Rattle.lists.specs.Range.{or_else, first_of, up_to}
use Rattle.lists.proofs.Filled.{Filled, filled_none, filled_at, filled_more}
use Rattle.lists.proofs.First.{first_of_here, first_of_next, first_of_over}
use Rattle.lists.proofs.UpTo.{up_to_ext}
use Rattle.table.specs.Limits.{most}
use Rattle.table.specs.Meaning.{subsystem_m, subsystem_at, meaning}
use Rattle.table.specs.Grid.{subsystem_in, subsystem_at_block, block_in, system_in, HasLines, HasBlocks}
use Rattle.table.proofs.GridLaws.{blocks_kept}
use Rattle.stored.specs.declared.Fault.{Fault}
use Rattle.stored.specs.declared.Fault.TheVariants.{LeftOver}
use Rattle.stored.specs.declared.Misread.{Misread}
use Rattle.stored.specs.Answers.{FieldAnswer, ReadAnswer, whole, misread, refused}
use Rattle.stored.specs.Field.{field_size, value_of, header_length, subsystem_tag, subsystem_length}
use Rattle.stored.specs.Judge.{subsystem_in_range, judge_subsystem}
use Rattle.stored.specs.Decode.{decoded_subsystem}
use Rattle.stored.specs.HeadLine.{HeadLine}
use Rattle.stored.specs.Read.{Refusal, refused_at, whole_unless, header_in, head_at, task_place, place_behind, subsystem_place, tasks_refusal, refusal_from, subsystem_refusal, left_over, body_refusal, subsystem_from, subsystem_read, table_to, table_in}
use Rattle.reader.specs.Reader.{answer_by, IsPart, IsBody}
use Rattle.stored.proofs.Judging.{sound_length, sound_whole, sound_value, sound_means}
use Rattle.stored.proofs.ReadMeaning.{subsystem_of_reading}
use Rattle.stored.proofs.Offsets.{part_from, part_to_the_end}
use Rattle.stored.proofs.InRange.{head_count_lem}
use Rattle.stored.proofs.RoundTrips.{whole_is_unrefused}
use Rattle.reader.proofs.ReadTasks.{whole_within, first_task_stands, refused_is_not_read}

------------------------------------------------------------------------
-- What an answer says of the refusal behind it

pub refused_is_some : (o : Option Refusal) (f : Fault) (p : ℕ) → whole_unless o ≡ refused f p → o ≡ some (f, p)
refused_is_some none f p e = let z : ◌≡◌ {A = ℕ} 0 1 = cc in absurd (omega arith)
refused_is_some (some r) f p e =
    let same : misread r.0 r.1 ≡ misread f p = cc in
    λ i. some ((same i).fault, (same i).offset)

pub refused_is_not_whole : (f : Fault) (p : ℕ) → refused f p ≢ whole
refused_is_not_whole f p e = let z : ◌≡◌ {A = ℕ} 0 1 = cc in absurd (omega arith)

------------------------------------------------------------------------
-- A grid whose blocks mean the subsystems that are read means the table that is read

grid_is_read : (file : List ℕ) (n m : ℕ) (grid : List (List (List ℕ))) → n ≡ (header_in file).count → m ≡ (header_in file).resources → ((q : ℕ) → q < n → subsystem_in m (block_in grid q) ≡ subsystem_m m (subsystem_read file m q)) → system_in n m grid ≡ meaning (table_in file)
unfolding system_in meaning table_in table_to subsystem_at_block subsystem_read
grid_is_read file n m grid count resources read = λ x. record { resources = resources x; subsystems = all x }
  where
    each : (q : ℕ) → q < n → subsystem_at_block m grid q ≡ subsystem_at (table_in file) q
    each q k =
        read q k ∙
        ap (λ (l : ℕ). subsystem_m l (subsystem_read file l q)) resources ∙
        sym (subsystem_of_reading file q (omega (arith, count, k)))

    all : up_to (subsystem_at_block m grid) n ≡ up_to (subsystem_at (table_in file)) (header_in file).count
    all =
        up_to_ext (subsystem_at_block m grid) (subsystem_at (table_in file)) n each ∙
        ap (up_to (subsystem_at (table_in file))) count

------------------------------------------------------------------------
-- At a subsystem: its own field, and then its tasks

module _ (file : List ℕ) (m at : ℕ) (a : FieldAnswer) (within : at ≤ length file) (judged : a ≡ judge_subsystem (part_from file at)) where
  refusal_of_field : refused_at at (judge_subsystem (drop at file)) ≡ refused_at at a
  refusal_of_field = ap (refused_at at) (sym (judged ∙ ap judge_subsystem (part_to_the_end file at)))

  -- A field that is refused ends the reading there.
  pub subsystem_stops : (f : Fault) (why : Misread) (block : List (List ℕ)) → HasLines block → a ≡ Err f → ◌≡◌ {A = ReadAnswer} (Err why) (whole_unless (refused_at at a)) → IsPart (refusal_from file m at) file m at block (Err why)
  unfolding refusal_from
  subsystem_stops f why block lines e q =
      let stop : refusal_from file m at ≡ some (f, at) = ap (λ (o : Option Refusal). or_else o (tasks_refusal file m at)) (refusal_of_field ∙ ap (refused_at at) e) in
      record {
        answer_is = rw stop (q ∙ ap (λ (b : FieldAnswer). whole_unless (refused_at at b)) e);
        lines = lines;
        means = λ z. absurd (some-ne-none (f, at) (sym stop ∙ z));
        next_is = λ next z. absurd (refused_is_not_read why next z);
        within = λ next z. absurd (refused_is_not_read why next z);
      }

  module _ (k : ℕ) (sound : a ≡ Ok k) where
    -- A field that is sound leaves the tasks to decide.
    pub tasks_decide : (block : List (List ℕ)) (r : Result ℕ Misread) → IsPart (tasks_refusal file m at) file m at block r → IsPart (refusal_from file m at) file m at block r
    unfolding refusal_from
    tasks_decide block r i =
        let go : refusal_from file m at ≡ tasks_refusal file m at = ap (λ (o : Option Refusal). or_else o (tasks_refusal file m at)) (refusal_of_field ∙ ap (refused_at at) sound) in
        rw go i

    pub head_is_read : (v line : List ℕ) → v ≡ value_of k (part_from file at) → HeadLine (decoded_subsystem v) line → HeadLine (head_at file at) line
    unfolding head_at
    head_is_read v line w d =
        let value = sound_value subsystem_tag subsystem_length subsystem_in_range (part_from file at) a k judged sound v w ∙ ap (value_of subsystem_length) (part_to_the_end file at) in
        rw (← value) d

    pub tasks_in_range : (head_at file at).count ≤ most
    tasks_in_range =
        (head_count_lem file at
        (sound_means subsystem_tag subsystem_length subsystem_in_range (drop at file) k
        (sym (judged ∙ ap judge_subsystem (part_to_the_end file at)) ∙ sound)
        ).1
        ).1

    pub first_task_within : task_place m at 0 ≤ length file
    first_task_within =
        omega (
          arith,
          first_task_stands m at,
          sound_length subsystem_tag subsystem_length subsystem_in_range (part_from file at) a k judged sound,
          whole_within file at k within
              (sound_whole subsystem_tag subsystem_length subsystem_in_range (part_from file at) a k judged sound),
        )

------------------------------------------------------------------------
-- What the reader knows before it judges subsystem s of n, at its place

abbrev BlockRead : List ℕ → ℕ → ℕ → List (List ℕ) → Type 0
BlockRead file m s block = subsystem_in m block ≡ subsystem_m m (subsystem_read file m s)

pub record SubsystemsTo (file : List ℕ) (m n s place : ℕ) (grid : List (List (List ℕ))) : Type 0 where
  pub passed : s ≤ n
  pub here : place ≡ subsystem_place file m s
  pub within : place ≤ length file
  pub blocks : HasBlocks grid
  pub read : Filled [] (BlockRead file m) 0 grid s
  pub left : first_of (subsystem_refusal file m) n 0 ≡ first_of (subsystem_refusal file m) (n - s) s

pub subsystems_begin : (file : List ℕ) (m n : ℕ) (grid : List (List (List ℕ))) → subsystem_place file m 0 ≤ length file → HasBlocks grid → SubsystemsTo file m n 0 (field_size header_length) grid
unfolding subsystem_place
subsystems_begin file m n grid h blocks =
    record {
      passed = omega arith;
      here = refl;
      within = h;
      blocks = blocks;
      read = filled_none [] (BlockRead file m) 0 grid;
      left = rw sub-zero refl;
    }

module _ (file : List ℕ) (m n s place : ℕ) (grid : List (List (List ℕ))) (to : SubsystemsTo file m n s place grid) where
  module _ (below : s < n) (fits : n ≤ most) (block : List (List ℕ)) (r : Result ℕ Misread) (reading : IsPart (refusal_from file m place) file m place block r) where
    refusal_of_subsystem : subsystem_refusal file m s ≡ refusal_from file m place
    unfolding subsystem_refusal
    refusal_of_subsystem = ap (refusal_from file m) (sym to.here)

    still_blocks : HasBlocks (set grid s block)
    still_blocks = blocks_kept grid s block (omega arith) to.blocks reading.lines

    -- A subsystem that is refused ends the reading there.
    pub subsystems_stop : (why : Misread) → r ≡ Err why → IsBody file n m (set grid s block) (Err why)
    unfolding body_refusal
    subsystems_stop why e =
        let f = why.fault in
        let p = why.offset in
        let stop : subsystem_refusal file m s ≡ some (f, p) = refusal_of_subsystem ∙ refused_is_some (refusal_from file m place) f p (sym reading.answer_is ∙ ap answer_by e) in
        let all : first_of (subsystem_refusal file m) n 0 ≡ some (f, p) = to.left ∙ first_of_here (subsystem_refusal file m) n s (f, p) below stop in
        record {
          answer_is = rw all refl;
          blocks = still_blocks;
          means = λ z. absurd (refused_is_not_whole f p z);
        }

    block_is_read : refusal_from file m place ≡ none → subsystem_in m block ≡ subsystem_m m (subsystem_read file m s)
    unfolding subsystem_read
    block_is_read o = reading.means o ∙ ap (λ (p : ℕ). subsystem_m m (subsystem_from file m p)) to.here

    -- A subsystem that is whole is read, and the next one stands behind it.
    pub subsystems_go_on : (next : ℕ) → r ≡ Ok next → SubsystemsTo file m n (s + 1) next (set grid s block)
    unfolding subsystem_place
    subsystems_go_on next e =
        let o = whole_is_unrefused (refusal_from file m place) (sym reading.answer_is ∙ ap answer_by e) in
        record {
          passed = omega arith;
          here = rw add-one (reading.next_is next e ∙ ap (place_behind file m) to.here);
          within = reading.within next e;
          blocks = still_blocks;
          read = filled_more [] (BlockRead file m) 0 grid s s block (omega arith) (omega (arith, to.blocks.blocks)) to.read (block_is_read o);
          left = to.left ∙ first_of_next (subsystem_refusal file m) n s below (refusal_of_subsystem ∙ o);
        }

  module _ (over : n ≤ s) where
    body_is_left_over : body_refusal file m n ≡ left_over file place
    unfolding body_refusal
    body_is_left_over =
        let all : s ≡ n = omega (arith, to.passed) in
        rw (to.left, first_of_over (subsystem_refusal file m) n s over)
        (ap (left_over file) (sym (to.here ∙ ap (subsystem_place file m) all)))

    -- Behind the last subsystem, bytes that are left are refused at the first of them.
    pub left_over_stops : place < length file → IsBody file n m grid (refused LeftOver place)
    unfolding left_over
    left_over_stops more =
        record {
          answer_is = rw (body_is_left_over, lt-ltb place (length file) more) refl;
          blocks = to.blocks;
          means = λ z. absurd (refused_is_not_whole LeftOver place z);
        }

    -- Where nothing is left the grid means what the file's table does.
    pub subsystems_end : length file ≤ place → n ≡ (header_in file).count → m ≡ (header_in file).resources → IsBody file n m grid whole
    unfolding left_over
    subsystems_end done count resources =
        record {
          answer_is = rw (body_is_left_over, le-ltb place (length file) done) refl;
          blocks = to.blocks;
          means = λ z. grid_is_read file n m grid count resources (λ q k. filled_at [] (BlockRead file m) 0 grid s q q (omega arith) to.read (omega arith));
        }
