-- The reader at the tasks of a subsystem: what it knows before each task, and what a judgement makes of that.
-- Assumes nothing.
use Prim.Native.Nat.{ℕ, ◌+◌, ◌-◌, ◌≤◌, ◌<◌}
use native.Mathlib.Nat.{sub-zero}
use native.Mathlib.Omega.{arith}
use mathlib.Core.Path.{◌≡◌, refl, sym, ap, ◌∙◌}
use mathlib.Core.Option.{some, some-ne-none}
use mathlib.Core.List.{List, []}
use lib.ListN.{length, get_or, drop, set, length-drop}
use Rattle.std.specs.Prelude.{Result, Ok, Err}
use Rattle.lists.specs.Range.{first_of}
use Rattle.lists.proofs.Filled.{Filled, filled_none, filled_at, filled_more, kept_before}
use Rattle.lists.proofs.First.{first_of_here, first_of_next, first_of_over}
use Rattle.table.specs.Limits.{most}
use Rattle.table.specs.Grid.{HasLines, LineOf, IsLine}
use Rattle.table.proofs.GridLaws.{lines_kept}
use Rattle.stored.specs.declared.Fault.{Fault}
use Rattle.stored.specs.declared.Misread.{Misread}
use Rattle.stored.specs.Answers.{FieldAnswer, ReadAnswer}
use Rattle.stored.specs.Field.{field_size, value_of, subsystem_length, task_tag, task_length}
use Rattle.stored.specs.Judge.{any_value, judge_task}
use Rattle.stored.specs.Decode.{decoded_task}
use Rattle.stored.specs.HeadLine.{HeadLine}
use Rattle.stored.specs.Read.{refused_at, whole_unless, head_at, task_place, place_behind, task_refusal, tasks_refusal, task_read}
use Rattle.reader.specs.Reader.{IsPart}
use Rattle.stored.proofs.Judging.{sound_length, sound_whole, sound_value}
use Rattle.stored.proofs.Offsets.{part_from, part_to_the_end, one_task_further}
use Rattle.reader.proofs.BlockLaws.{block_means}

-- A field that is whole in the part from an offset on is whole in the file.
pub whole_within : (xs : List ℕ) (a k : ℕ) → a ≤ length xs → field_size k ≤ length (part_from xs a) → a + field_size k ≤ length xs
whole_within xs a k h w = omega (arith, ap length (part_to_the_end xs a), length-drop a xs)

-- Where the first task stands.
pub first_task_stands : (m at : ℕ) → at + field_size subsystem_length ≡ task_place m at 0
unfolding task_place
first_task_stands m at = omega arith

-- What is refused was not read.
pub refused_is_not_read : {A : Type 0} (why : Misread) (x : A) → ◌≡◌ {A = Result A Misread} (Err why) (Ok x) → ⊥
refused_is_not_read why x e = let z : ◌≡◌ {A = ℕ} 0 1 = cc in omega arith

------------------------------------------------------------------------
-- What the reader knows before it judges task i of n, at its place

abbrev LineRead : List ℕ → ℕ → ℕ → ℕ → List ℕ → Type 0
LineRead file m at j line = LineOf m (task_read file m at j) line

pub record TasksTo (file : List ℕ) (m at n i place : ℕ) (block : List (List ℕ)) : Type 0 where
  pub passed : i ≤ n
  pub here : place ≡ task_place m at i
  pub within : place ≤ length file
  pub lines : HasLines block
  pub head : HeadLine (head_at file at) (get_or block 0 [])
  pub read : Filled [] (LineRead file m at) 1 block i
  pub left : tasks_refusal file m at ≡ first_of (task_refusal file m at) (n - i) i

pub tasks_begin : (file : List ℕ) (m at n place : ℕ) (block : List (List ℕ)) → n ≡ (head_at file at).count → place ≡ at + field_size subsystem_length → task_place m at 0 ≤ length file → HasLines block → HeadLine (head_at file at) (get_or block 0 []) → TasksTo file m at n 0 place block
unfolding tasks_refusal
tasks_begin file m at n place block e p h lines head =
    record {
      passed = omega arith;
      here = p ∙ first_task_stands m at;
      within = omega (arith, h, p, first_task_stands m at);
      lines = lines;
      head = head;
      read = filled_none [] (LineRead file m at) 1 block;
      left = rw sub-zero (ap (λ (k : ℕ). first_of (task_refusal file m at) k 0) (sym e));
    }

module _ (file : List ℕ) (m at n i place : ℕ) (block : List (List ℕ)) (to : TasksTo file m at n i place block) (below : i < n) (a : FieldAnswer) (judged : a ≡ judge_task m (part_from file place)) where
  refusal_of_task : task_refusal file m at i ≡ refused_at place a
  unfolding task_refusal
  refusal_of_task =
      rw (← to.here) (ap (refused_at place) (sym (judged ∙ ap (judge_task m) (part_to_the_end file place))))

  -- A task that is refused ends the reading there.
  pub tasks_stop : (f : Fault) (why : Misread) → a ≡ Err f → ◌≡◌ {A = ReadAnswer} (Err why) (whole_unless (refused_at place a)) → IsPart (tasks_refusal file m at) file m at block (Err why)
  tasks_stop f why e q =
      let stop : tasks_refusal file m at ≡ some (f, place) = to.left ∙ first_of_here (task_refusal file m at) n i (f, place) below (refusal_of_task ∙ ap (refused_at place) e) in
      record {
        answer_is = rw stop (q ∙ ap (λ (b : FieldAnswer). whole_unless (refused_at place b)) e);
        lines = to.lines;
        means = λ z. absurd (some-ne-none (f, place) (sym stop ∙ z));
        next_is = λ next z. absurd (refused_is_not_read why next z);
        within = λ next z. absurd (refused_is_not_read why next z);
      }

  -- A task that is sound is read, and the next one stands behind it.
  pub tasks_go_on : (k : ℕ) (v line : List ℕ) → a ≡ Ok k → v ≡ value_of k (part_from file place) → LineOf m (decoded_task m v) line → IsLine line → n ≤ most → TasksTo file m at n (i + 1) (place + field_size k) (set block (i + 1) line)
  unfolding task_read
  tasks_go_on k v line e w d q h =
      let due = sound_length task_tag (task_length m) any_value (part_from file place) a k judged e in
      let value = sound_value task_tag (task_length m) any_value (part_from file place) a k judged e v w in
      let this : decoded_task m v ≡ task_read file m at i = ap (decoded_task m) (value ∙ ap (value_of (task_length m)) (part_to_the_end file place ∙ ap (λ (p : ℕ). drop p file) to.here)) in
      record {
        passed = omega arith;
        here = rw (due, to.here) (one_task_further m at i);
        within =
            whole_within file place k to.within
            (sound_whole task_tag (task_length m) any_value (part_from file place) a k judged e);
        lines = lines_kept block (i + 1) line (omega arith) to.lines q;
        head = rw (kept_before [] block (i + 1) 0 line (omega arith)) to.head;
        read = filled_more [] (LineRead file m at) 1 block i (i + 1) line refl (omega (arith, to.lines.lines)) to.read (rw (← this) d);
        left = to.left ∙ first_of_next (task_refusal file m at) n i below (refusal_of_task ∙ ap (refused_at place) e);
      }

-- Behind the last task the subsystem is read.
pub tasks_end : (file : List ℕ) (m at n i place : ℕ) (block : List (List ℕ)) → TasksTo file m at n i place block → n ≤ i → n ≡ (head_at file at).count → IsPart (tasks_refusal file m at) file m at block (Ok place)
unfolding place_behind
tasks_end file m at n i place block to over count =
    let all : i ≡ (head_at file at).count = omega (arith, to.passed, count) in
    record {
      answer_is = sym (ap whole_unless (to.left ∙ first_of_over (task_refusal file m at) n i over));
      lines = to.lines;
      means = λ z. block_means file m at block to.head (λ j k. filled_at [] (LineRead file m at) 1 block i j (j + 1) refl to.read (omega (arith, all, k)));
      next_is = λ next e. next_place next e ∙ to.here ∙ ap (task_place m at) all;
      within = λ next e. omega (arith, to.within, next_place next e);
    }
  where
    next_place : (next : ℕ) → ◌≡◌ {A = Result ℕ Misread} (Ok place) (Ok next) → next ≡ place
    next_place next e = cc
