-- Where a file can be refused: at no offset behind the largest file, however long the file is. Assumes nothing.
use Prim.Native.Nat.{ℕ, zero, suc, ◌+◌, ◌*◌, ◌≤◌, ◌<◌, ◌^◌}
use native.Mathlib.Nat.{mul-le-mul}
use native.Mathlib.Omega.{arith}
use borrow.Author.Tests.{leb-true}
use mathlib.Core.Path.{◌≡◌, refl, ap, ◌∙◌}
use mathlib.Core.Bool.{Bool, true, false, not, cond, ◌&&◌}
use mathlib.Core.Option.{Option, none, some}
use mathlib.Core.List.{List}
use lib.Dec.{ltb, leb, eqb}
use lib.ListN.{length, get_or, drop}
use Rattle.std.specs.Prelude.{Ok, Err}
use Rattle.lists.specs.Range.{or_else, first_of}
use Rattle.lists.proofs.First.{first_of_means, first_of_none}
use Rattle.table.specs.Limits.{most}
use Rattle.rules.specs.Rules.{count_out}
use Rattle.stored.specs.declared.Fault.TheVariants.{LeftOver}
use Rattle.stored.specs.declared.FileRefusal.{FileRefusal}
use Rattle.stored.specs.Answers.{FieldAnswer, ReadAnswer}
use Rattle.stored.specs.Field.{field_size, value_of, version, header_tag, header_length, subsystem_tag, subsystem_length, task_length}
use Rattle.stored.specs.Judge.{header_in_range, subsystem_in_range, judge_header, judge_subsystem, judge_task}
use Rattle.stored.specs.Decode.{decoded_header, decoded_subsystem}
use Rattle.stored.specs.File.{largest_file}
use Rattle.stored.specs.Read.{Refusal, file_refusal, whole_unless, refused_at, header_in, head_at, task_place, place_behind, subsystem_place, task_refusal, tasks_refusal, refusal_from, subsystem_refusal, left_over, body_refusal, refusal_in, read_of}
use Rattle.stored.proofs.InRange.{count_in_range, and_left, and_right}
use Rattle.stored.proofs.ReadWritten.{neither_refused, sound_where_unrefused}

-- The place of a refusal, 0 where there is none.
abbrev place_in : Option Refusal → ℕ
place_in none = 0
place_in (some r) = r.1

------------------------------------------------------------------------
-- A bound on each part is a bound on the first refusal

field_at_most : (at : ℕ) (a : FieldAnswer) → place_in (refused_at at a) ≤ at
field_at_most at (Ok n) = omega arith
field_at_most at (Err f) = omega arith

either_at_most : (k : ℕ) (a b : Option Refusal) → place_in a ≤ k → (a ≡ none → place_in b ≤ k) → place_in (or_else a b) ≤ k
either_at_most k none b h g = g refl
either_at_most k (some r) b h g = h

first_at_most :
    (k : ℕ) (f : ℕ → Option Refusal) (n : ℕ) → ((x : ℕ) → x < n → ((y : ℕ) → y < x → f y ≡ none) → place_in (f x) ≤ k) →
    place_in (first_of f n 0) ≤ k
first_at_most k f n h = go (first_of f n 0) refl
  where
    go : (o : Option Refusal) → first_of f n 0 ≡ o → place_in o ≤ k
    go none e = omega arith
    go (some r) e =
        let first = first_of_means f n 0 r e in
        let x = first.0 in
        rw first.1.gives at (h x (omega (arith, first.1.within)) (λ y l. first.1.before y (omega arith) l))

left_over_at_most : (file : List ℕ) (at : ℕ) → place_in (left_over file at) ≤ at
unfolding left_over
left_over_at_most file at = go (ltb at (length file))
  where
    go : (b : Bool) → place_in (cond b (some (LeftOver, at)) none) ≤ at
    go true = omega arith
    go false = omega arith

------------------------------------------------------------------------
-- The parts of a file

-- The most bytes that a subsystem takes with its tasks.
abbrev largest_subsystem : ℕ
largest_subsystem = field_size subsystem_length + most * field_size (task_length most)

module _ (file : List ℕ) (m : ℕ) (few : m ≤ most) where
  task_at_most : (at i : ℕ) → i ≤ most → task_place m at i ≤ at + largest_subsystem
  unfolding task_place
  task_at_most at i l =
      omega (arith, mul-le-mul {n₁ = i} {m₁ = field_size (task_length m)} {n₂ = most} {m₂ = field_size (task_length most)} l (omega arith))

  tasks_at_most : (at : ℕ) → refused_at at (judge_subsystem (drop at file)) ≡ none → (head_at file at).count ≤ most
  unfolding head_at decoded_subsystem subsystem_in_range
  tasks_at_most at e =
      let sound = sound_where_unrefused subsystem_tag subsystem_length at subsystem_in_range (drop at file) e in
      (count_in_range (head_at file at).count sound.ranged).1

  -- In a subsystem, and behind it.
  refused_at_most : (at : ℕ) → place_in (refusal_from file m at) ≤ at + largest_subsystem
  unfolding refusal_from tasks_refusal task_refusal
  refused_at_most at =
      either_at_most (at + largest_subsystem) (refused_at at (judge_subsystem (drop at file))) (tasks_refusal file m at)
      (omega (arith, field_at_most at (judge_subsystem (drop at file))))
      (λ own.
      first_at_most (at + largest_subsystem) (task_refusal file m at) (head_at file at).count
      (λ i h clean.
      omega (arith, task_at_most at i (omega (arith, tasks_at_most at own)), field_at_most (task_place m at i) (judge_task m (drop (task_place m at i) file)))))

  behind_at_most : (at : ℕ) → refusal_from file m at ≡ none → place_behind file m at ≤ at + largest_subsystem
  unfolding refusal_from place_behind
  behind_at_most at e =
      task_at_most at (head_at file at).count
      (tasks_at_most at (neither_refused (refused_at at (judge_subsystem (drop at file))) (tasks_refusal file m at) e).0)

  -- The place of each subsystem, as long as nothing before it is refused.
  subsystem_at_most :
      (s : ℕ) → ((y : ℕ) → y < s → subsystem_refusal file m y ≡ none) →
      subsystem_place file m s ≤ field_size header_length + s * largest_subsystem
  unfolding subsystem_place subsystem_refusal
  subsystem_at_most zero clean = omega arith
  subsystem_at_most (suc s) clean =
      omega (arith, subsystem_at_most s (λ y l. clean y (omega arith)), behind_at_most (subsystem_place file m s) (clean s (omega arith)))

  body_at_most : (n : ℕ) → n ≤ most → place_in (body_refusal file m n) ≤ largest_file
  unfolding body_refusal subsystem_refusal
  body_at_most n h =
      either_at_most largest_file (first_of (subsystem_refusal file m) n 0) (left_over file (subsystem_place file m n))
      (first_at_most largest_file (subsystem_refusal file m) n
      (λ s l clean. omega (arith, subsystem_at_most s clean, refused_at_most (subsystem_place file m s))))
      (λ clean.
      omega (
        arith,
        subsystem_at_most n (λ y l. first_of_none (subsystem_refusal file m) n 0 clean y (omega arith) (omega arith)),
        left_over_at_most file (subsystem_place file m n),
      ))

header_counts : (file : List ℕ) → refused_at 0 (judge_header file) ≡ none → ((header_in file).count ≤ most) × ((header_in file).resources ≤ most)
unfolding header_in decoded_header header_in_range
header_counts file e =
    let sound = sound_where_unrefused header_tag header_length 0 header_in_range file e in
    let v = value_of header_length file in
    let counts = and_right (eqb (get_or v 0 0) version) (not (count_out (get_or v 1 0)) && leb (get_or v 2 0) most) sound.ranged in (
      (count_in_range (get_or v 1 0) (and_left (not (count_out (get_or v 1 0))) (leb (get_or v 2 0) most) counts)).1,
      leb-true (get_or v 2 0) most (and_right (not (count_out (get_or v 1 0))) (leb (get_or v 2 0) most) counts),
    )

refusal_at_most : (file : List ℕ) → place_in (refusal_in file) ≤ largest_file
unfolding refusal_in
refusal_at_most file =
    either_at_most largest_file (refused_at 0 (judge_header file)) (body_refusal file (header_in file).resources (header_in file).count)
    (omega (arith, field_at_most 0 (judge_header file)))
    (λ e. body_at_most file (header_in file).resources (header_counts file e).1 (header_in file).count (header_counts file e).0)

------------------------------------------------------------------------
-- The offset that is printed

pub offset_most : (file : List ℕ) → (file_refusal (read_of file).answer).offset ≤ largest_file
unfolding read_of
offset_most file = rw (← same (refusal_in file)) (refusal_at_most file)
  where
    same : (o : Option Refusal) → place_in o ≡ (file_refusal (whole_unless o)).offset
    same none = refl
    same (some r) = refl

-- So it has the width of the numbers that are printed.
pub offset_fits : (file : List ℕ) (answer : ReadAnswer) (r : FileRefusal) → answer ≡ (read_of file).answer → r ≡ file_refusal answer → r.offset < 2 ^ 32
offset_fits file answer r e f = omega (arith, ap (λ (q : FileRefusal). q.offset) (f ∙ ap file_refusal e), offset_most file)
