-- The first 4,096 bytes of an input are read as all of it: no field that the reader comes to reaches further.
-- Assumes nothing.
use Prim.Native.Nat.{ℕ, zero, suc, ◌+◌, ◌*◌, ◌-◌, ◌≤◌, ◌<◌}
use native.Mathlib.Nat.{mul-le-mul}
use native.Mathlib.Omega.{arith}
use borrow.Author.Tests.{lt-ltb}
use mathlib.Core.Path.{◌≡◌, refl, sym, ap, ◌∙◌}
use mathlib.Core.Logic.{⊎_elim}
use mathlib.Core.Bool.{Bool}
use mathlib.Core.Option.{Option, none, some}
use mathlib.Core.List.{List}
use lib.ListN.{length, take, drop, length-take}
use lib.Seq.{take_all}
use Rattle.std.specs.Prelude.{Ok, Err}
use Rattle.lists.specs.Range.{or_else, first_of}
use Rattle.lists.proofs.First.{first_of_ext, first_of_none}
use Rattle.lists.proofs.Over.{le_or_lt}
use Rattle.table.specs.Limits.{most}
use Rattle.table.specs.declared.Subsystem.{Subsystem}
use Rattle.stored.specs.Answers.{FieldAnswer}
use Rattle.stored.specs.Field.{field_size, value_of, header_tag, header_length, subsystem_tag, subsystem_length, task_tag, task_length}
use Rattle.stored.specs.Judge.{header_in_range, subsystem_in_range, any_value, judge_field, judge_header, judge_subsystem}
use Rattle.stored.specs.Decode.{decoded_header, decoded_subsystem}
use Rattle.stored.specs.File.{largest_file, enough}
use Rattle.stored.specs.Read.{Refusal, refused_at, header_in, head_at, task_place, place_behind, subsystem_place, task_refusal, tasks_refusal, refusal_from, subsystem_refusal, left_over, body_refusal, refusal_in, read_of}
use Rattle.stored.proofs.Judging.{sound_means}
use Rattle.stored.proofs.Offsets.{one_task_further}
use Rattle.stored.proofs.InRange.{header_counts, head_count_lem}
use Rattle.stored.proofs.ReadWritten.{neither_refused, sound_where_unrefused, nothing_left_behind}
use Rattle.stored.proofs.FirstBytes.{drop_of_take, value_of_first, judged_by_first_bytes}
use Rattle.stored.proofs.MoreRange.{first_of_until}

-- The most bytes that a subsystem takes with its tasks.
abbrev largest_subsystem : ℕ
largest_subsystem = field_size subsystem_length + most * field_size (task_length most)

------------------------------------------------------------------------
-- Counts in range keep the reader within the longest file

tasks_within : (m at i : ℕ) → m ≤ most → i ≤ most → task_place m at i ≤ at + largest_subsystem
unfolding task_place
tasks_within m at i h l =
    omega (arith, mul-le-mul {n₁ = i} {m₁ = field_size (task_length m)} {n₂ = most} {m₂ = field_size (task_length most)} l (omega arith))

------------------------------------------------------------------------
-- What the reader sees of the first bytes

module _ (file : List ℕ) where
  abbrev first : List ℕ
  first = take enough file

  judged_alike : (tag due at : ℕ) (in_range : List ℕ → Bool) → at + field_size due ≤ enough → judge_field tag due in_range (drop at first) ≡ judge_field tag due in_range (drop at file)
  judged_alike tag due at in_range h =
      ap (judge_field tag due in_range) (drop_of_take file enough at (omega arith)) ∙
      judged_by_first_bytes tag due (enough - at) in_range (drop at file) (omega arith)

  head_alike : (at : ℕ) → at + field_size subsystem_length ≤ enough → head_at first at ≡ head_at file at
  unfolding head_at
  head_alike at h =
      ap decoded_subsystem
      (ap (value_of subsystem_length) (drop_of_take file enough at (omega arith)) ∙
      value_of_first (drop at file) (enough - at) subsystem_length (omega arith))

  header_alike : header_in first ≡ header_in file
  unfolding header_in
  header_alike = ap decoded_header (value_of_first file enough header_length (omega arith))

  first_is_enough_long : enough < length file → length first ≡ enough
  first_is_enough_long h = rw length-take (omega arith)

  left_over_alike : (at : ℕ) → at ≤ largest_file → enough < length file → left_over first at ≡ left_over file at
  unfolding left_over
  left_over_alike at h long =
      rw (lt-ltb at (length file) (omega arith), lt-ltb at (length first) (omega (arith, first_is_enough_long long))) refl

  module _ (m : ℕ) (few : m ≤ most) where
    task_refused_alike : (at i : ℕ) → at + largest_subsystem ≤ enough → i < most → task_refusal first m at i ≡ task_refusal file m at i
    unfolding task_refusal
    task_refused_alike at i h l =
        ap (refused_at (task_place m at i))
        (judged_alike task_tag (task_length m) (task_place m at i) any_value
        (omega (arith, one_task_further m at i, tasks_within m at (i + 1) few (omega arith))))

    refused_alike : (at : ℕ) → at + largest_subsystem ≤ enough → refusal_from first m at ≡ refusal_from file m at
    unfolding refusal_from tasks_refusal
    refused_alike at h = go (judge_subsystem (drop at file)) refl
      where
        same : judge_subsystem (drop at first) ≡ judge_subsystem (drop at file)
        same = judged_alike subsystem_tag subsystem_length at subsystem_in_range (omega arith)

        go : (a : FieldAnswer) → judge_subsystem (drop at file) ≡ a → refusal_from first m at ≡ refusal_from file m at
        go (Err f) e = rw (same, e) refl
        go (Ok n) e =
            rw (same, e, head_alike at (omega arith))
            (first_of_ext (task_refusal first m at) (task_refusal file m at) (head_at file at).count 0
            (λ i l u. task_refused_alike at i h (omega (arith, (head_count_lem file at (sound_means subsystem_tag subsystem_length subsystem_in_range (drop at file) n e).1).1))))

    -- A subsystem that is not refused ends near, and at the same offset.
    behind_alike : (at : ℕ) → at + largest_subsystem ≤ enough → refusal_from file m at ≡ none → (place_behind file m at ≤ at + largest_subsystem) × (place_behind first m at ≡ place_behind file m at)
    unfolding refusal_from place_behind
    behind_alike at h clean =
        let own = (neither_refused (refused_at at (judge_subsystem (drop at file))) (tasks_refusal file m at) clean).0 in
        let sound = sound_where_unrefused subsystem_tag subsystem_length at subsystem_in_range (drop at file) own in (
          tasks_within m at (head_at file at).count few (head_count_lem file at sound).1,
          ap (λ (u : Subsystem). task_place m at u.count) (head_alike at (omega arith)),
        )

    -- As long as nothing is refused, the places are the same, and near.
    places_alike : (s : ℕ) → s ≤ most → ((y : ℕ) → y < s → subsystem_refusal file m y ≡ none) → (subsystem_place file m s ≤ field_size header_length + s * largest_subsystem) × (subsystem_place first m s ≡ subsystem_place file m s)
    unfolding subsystem_place subsystem_refusal
    places_alike zero h clean = (omega arith, refl)
    places_alike (suc s) h clean =
        let before = places_alike s (omega arith) (λ y l. clean y (omega arith)) in
        let here = behind_alike (subsystem_place file m s) (omega (arith, before.0)) (clean s (omega arith)) in
        (omega (arith, before.0, here.0), ap (place_behind first m) before.1 ∙ here.1)

    subsystem_refused_alike : (n s : ℕ) → n ≤ most → s < n → ((y : ℕ) → 0 ≤ y → y < s → subsystem_refusal file m y ≡ none) → subsystem_refusal file m s ≡ subsystem_refusal first m s
    unfolding subsystem_refusal
    subsystem_refused_alike n s few-n h clean =
        let p = places_alike s (omega arith) (λ y l. clean y (omega arith) l) in
        sym (ap (refusal_from first m) p.1 ∙ refused_alike (subsystem_place file m s) (omega (arith, p.0)))

    -- Behind the header a long input is refused alike, and refused it is.
    body_refused_alike : (n : ℕ) → n ≤ most → enough < length file → body_refusal first m n ≡ body_refusal file m n
    unfolding body_refusal
    body_refused_alike n few-n long = go (first_of (subsystem_refusal file m) n 0) refl
      where
        same : first_of (subsystem_refusal file m) n 0 ≡ first_of (subsystem_refusal first m) n 0
        same =
            first_of_until (subsystem_refusal file m) (subsystem_refusal first m) n 0
            (λ s l u clean. subsystem_refused_alike n s few-n (omega arith) clean)

        go : (o : Option Refusal) → first_of (subsystem_refusal file m) n 0 ≡ o → or_else (first_of (subsystem_refusal first m) n 0) (left_over first (subsystem_place first m n)) ≡ or_else (first_of (subsystem_refusal file m) n 0) (left_over file (subsystem_place file m n))
        go (some r) e = rw (← same, e) refl
        go none e =
            let p = places_alike n few-n (λ y l. first_of_none (subsystem_refusal file m) n 0 e y (omega arith) (omega arith)) in
            rw (← same, e, p.1) (left_over_alike (subsystem_place file m n) (omega (arith, p.0)) long)

  ------------------------------------------------------------------------
  -- From the header on

  header_judged_alike : judge_header first ≡ judge_header file
  header_judged_alike = judged_alike header_tag header_length 0 header_in_range (omega arith)

  refusals_alike : enough < length file → refusal_in first ≡ refusal_in file
  unfolding refusal_in
  refusals_alike long = go (judge_header file) refl
    where
      go : (a : FieldAnswer) → judge_header file ≡ a → refusal_in first ≡ refusal_in file
      go (Err f) e = rw (header_judged_alike, e) refl
      go (Ok n) e =
          let within = header_counts file (sound_means header_tag header_length header_in_range file n e).1 in
          rw (header_judged_alike, e, header_alike)
          (body_refused_alike (header_in file).resources within.2 (header_in file).count within.1 long)

  -- A file that is not refused is no longer than the largest.
  pub read_is_no_longer : refusal_in file ≡ none → length file ≤ largest_file
  unfolding refusal_in body_refusal left_over
  read_is_no_longer clean =
      let M = (header_in file).resources in
      let N = (header_in file).count in
      let parts = neither_refused (refused_at 0 (judge_header file)) (body_refusal file M N) clean in
      let within = header_counts file (sound_where_unrefused header_tag header_length 0 header_in_range file parts.0) in
      let body = neither_refused (first_of (subsystem_refusal file M) N 0) (left_over file (subsystem_place file M N)) parts.1 in
      let p = places_alike M within.2 N within.1 (λ y l. first_of_none (subsystem_refusal file M) N 0 body.0 y (omega arith) (omega arith)) in
      omega (arith, p.0, within.1, nothing_left_behind file (subsystem_place file M N) body.1)

-- Reading the first 4,096 bytes of any input gives what reading all of it gives: answer, place and table.
pub first_bytes_suffice : (input : List ℕ) → read_of (take enough input) ≡ read_of input
unfolding read_of
first_bytes_suffice input =
    ⊎_elim (λ (short : length input ≤ enough). ap read_of (take_all enough input short))
    (λ (long : enough < length input). go long (refusal_in input) refl)
    (le_or_lt (length input) enough)
  where
    go : enough < length input → (o : Option Refusal) → refusal_in input ≡ o → read_of (take enough input) ≡ read_of input
    go long (some r) e = rw (refusals_alike input long, e) refl
    go long none e = absurd (omega (arith, read_is_no_longer input e))
