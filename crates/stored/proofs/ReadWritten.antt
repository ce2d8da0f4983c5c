-- A file that is read is the file of what is read. Assumes nothing.
use Prim.Native.Nat.{ℕ, zero, suc, ◌+◌, ◌*◌, ◌≤◌, ◌<◌}
use native.Mathlib.Nat.{suc-mul, zero-mul, add_assoc, le_refl}
use native.Mathlib.Numerals.{add-one}
use native.Mathlib.Omega.{arith}
use borrow.Author.Tests.{ltb-false}
use mathlib.Core.Path.{◌≡◌, refl, sym, ap, ap₂, ◌∙◌}
use mathlib.Core.Bool.{Bool, true, false, cond}
use mathlib.Core.Option.{Option, none, some, some-ne-none}
use mathlib.Core.List.{List, ◌++◌, append-nil, append_assoc, flat_map}
use lib.Dec.{ltb}
use lib.ListN.{length, take, drop}
use lib.Seq.{take-add, take_all, drop-drop, get_or-drop}
use Rattle.std.specs.Prelude.{Ok, Err}
use Rattle.lists.specs.Range.{or_else, first_of, up_to}
use Rattle.lists.proofs.First.{first_of_none}
use Rattle.table.specs.Meaning.{task_at, subsystem_m, subsystem_at, meaning}
use Rattle.stored.specs.declared.Fault.TheVariants.{LeftOver}
use Rattle.stored.specs.Answers.{FieldAnswer}
use Rattle.stored.specs.Numbers.{AreBytes}
use Rattle.stored.specs.Field.{start_size, field_size, field, value_of, header_tag, header_length, subsystem_tag, subsystem_length, task_tag, task_length}
use Rattle.stored.specs.Judge.{header_in_range, subsystem_in_range, any_value, judge_field, judge_header, judge_subsystem}
use Rattle.stored.specs.Decode.{decoded_header, decoded_subsystem}
use Rattle.stored.specs.File.{header_value, subsystem_value, task_value, task_field, subsystem_bytes, file_of}
use Rattle.stored.specs.Read.{Refusal, refused_at, header_in, head_at, task_place, place_behind, subsystem_place, task_refusal, tasks_refusal, refusal_from, subsystem_refusal, left_over, body_refusal, refusal_in, task_read, subsystem_to, subsystem_from, table_to, table_in}
use Rattle.stored.proofs.Judging.{SoundField, sound_means, length_value_of}
use Rattle.stored.proofs.FileLaws.{flat_map_none, flat_map_one_more, file_bytes, subsystem_bytes_lem}
use Rattle.stored.proofs.FieldLaws.{bytes_of_part, sound_is_field}
use Rattle.stored.proofs.ValueLaws.{header_put_again, subsystem_put_again, task_put_again}
use Rattle.stored.proofs.ReadMeaning.{task_of_reading, subsystem_of_reading}

------------------------------------------------------------------------
-- Where nothing is refused, each field is sound

pub neither_refused : (a b : Option Refusal) → or_else a b ≡ none → (a ≡ none) × (b ≡ none)
neither_refused none b e = (refl, e)
neither_refused (some r) b e = absurd (some-ne-none r e)

unrefused_is_sound : (at : ℕ) (a : FieldAnswer) → refused_at at a ≡ none → (n : ℕ) × (a ≡ Ok n)
unrefused_is_sound at (Ok n) e = (n, refl)
unrefused_is_sound at (Err f) e = absurd (some-ne-none (f, at) e)

pub sound_where_unrefused : (tag due at : ℕ) (in_range : List ℕ → Bool) (rest : List ℕ) → refused_at at (judge_field tag due in_range rest) ≡ none → SoundField tag due in_range rest
sound_where_unrefused tag due at in_range rest e =
    let s = unrefused_is_sound at (judge_field tag due in_range rest) e in
    (sound_means tag due in_range rest s.0 s.1).1

not_left_over : (b : Bool) (r : Refusal) → cond b (some r) none ≡ none → b ≡ false
not_left_over true r e = absurd (some-ne-none r e)
not_left_over false r e = refl

-- Where no bytes are left over, the file ends there.
pub nothing_left_behind : (file : List ℕ) (at : ℕ) → left_over file at ≡ none → length file ≤ at
unfolding left_over
nothing_left_behind file at e =
    ltb-false at (length file) (not_left_over (ltb at (length file)) (LeftOver, at) e)

bytes_from : (file : List ℕ) (a : ℕ) → AreBytes file → AreBytes (drop a file)
bytes_from file a bytes i = rw get_or-drop (bytes (a + i))

bytes_of_value : (file : List ℕ) (len a : ℕ) → AreBytes file → AreBytes (value_of len (drop a file))
unfolding value_of
bytes_of_value file len a bytes = bytes_of_part (drop a file) len start_size (bytes_from file a bytes)

------------------------------------------------------------------------
-- A subsystem that is not refused: its bytes are those of what is read

module _ (file : List ℕ) (bytes : AreBytes file) (m at : ℕ) (unrefused : refusal_from file m at ≡ none) where
  abbrev count : ℕ
  count = (head_at file at).count

  abbrev size : ℕ
  size = field_size (task_length m)

  pub head_sound : SoundField subsystem_tag subsystem_length subsystem_in_range (drop at file)
  unfolding refusal_from
  head_sound =
      sound_where_unrefused subsystem_tag subsystem_length at subsystem_in_range (drop at file)
      (neither_refused (refused_at at (judge_subsystem (drop at file))) (tasks_refusal file m at) unrefused).0

  pub task_sound : (i : ℕ) → i < count → SoundField task_tag (task_length m) any_value (drop (task_place m at i) file)
  unfolding refusal_from tasks_refusal task_refusal
  task_sound i h =
      let none-of-them = (neither_refused (refused_at at (judge_subsystem (drop at file))) (tasks_refusal file m at) unrefused).1 in
      sound_where_unrefused task_tag (task_length m) (task_place m at i) any_value (drop (task_place m at i) file)
      (first_of_none (task_refusal file m at) count 0 none-of-them i (omega arith) (omega arith))

  task_bytes : (i : ℕ) → i < count → take size (drop (task_place m at i) file) ≡ task_field (task_at m (subsystem_from file m at) i)
  unfolding task_field task_read
  task_bytes i h =
      let rest = drop (task_place m at i) file in
      let v = value_of (task_length m) rest in
      let sound = task_sound i h in
      sound_is_field task_tag (task_length m) any_value rest sound (bytes_from file (task_place m at i) bytes) ∙
      ap (field task_tag)
      (sym
      (ap task_value (task_of_reading file m at i h) ∙
      task_put_again m v (bytes_of_value file (task_length m) (task_place m at i) bytes)
      (length_value_of (task_length m) rest sound.whole)))

  first_tasks : (i : ℕ) → i ≤ count → take (i * size) (drop (at + field_size subsystem_length) file) ≡ flat_map task_field (up_to (task_at m (subsystem_from file m at)) i)
  unfolding task_place
  first_tasks zero h = rw zero-mul (sym (flat_map_none task_field (task_at m (subsystem_from file m at))))
  first_tasks (suc i) h =
      rw (suc-mul i size, take-add (i * size) size (drop (at + field_size subsystem_length) file), drop-drop (i * size) (at + field_size subsystem_length) file)
      (ap₂ (λ (x y : List ℕ). x ++ y) (first_tasks i (omega arith)) (task_bytes i (omega arith)) ∙
      sym (flat_map_one_more task_field (task_at m (subsystem_from file m at)) i) ∙
      ap (λ (k : ℕ). flat_map task_field (up_to (task_at m (subsystem_from file m at)) k)) (add-one i))

  head_bytes : take (field_size subsystem_length) (drop at file) ≡ field subsystem_tag (subsystem_value (head_at file at).period (head_at file at).budget count)
  unfolding head_at decoded_subsystem
  head_bytes =
      sound_is_field subsystem_tag subsystem_length subsystem_in_range (drop at file) head_sound (bytes_from file at bytes) ∙
      ap (field subsystem_tag)
      (sym
      (subsystem_put_again (value_of subsystem_length (drop at file)) (bytes_of_value file subsystem_length at bytes)
      (length_value_of subsystem_length (drop at file) head_sound.whole)))

  subsystem_is_its_bytes : take (field_size subsystem_length + count * size) (drop at file) ≡ subsystem_bytes (subsystem_m m (subsystem_from file m at))
  unfolding subsystem_from subsystem_to
  subsystem_is_its_bytes =
      take-add (field_size subsystem_length) (count * size) (drop at file) ∙
      ap₂ (λ (x y : List ℕ). x ++ y) head_bytes
      (ap (take (count * size)) (drop-drop (field_size subsystem_length) at file) ∙ first_tasks count (le_refl count)) ∙
      subsystem_bytes_lem m (subsystem_from file m at)

  -- The bytes up to the offset behind a subsystem are those before it and its own.
  pub one_subsystem_of_bytes : take (place_behind file m at) file ≡ take at file ++ subsystem_bytes (subsystem_m m (subsystem_from file m at))
  unfolding place_behind task_place
  one_subsystem_of_bytes =
      ap (λ (k : ℕ). take k file) (add_assoc at (field_size subsystem_length) (count * size)) ∙
      take-add at (field_size subsystem_length + count * size) file ∙
      ap (λ (l : List ℕ). take at file ++ l) subsystem_is_its_bytes

------------------------------------------------------------------------
-- A file that is not refused

module _ (file : List ℕ) (bytes : AreBytes file) (unrefused : refusal_in file ≡ none) where
  abbrev N : ℕ
  N = (header_in file).count

  abbrev M : ℕ
  M = (header_in file).resources

  abbrev place : ℕ → ℕ
  place s = subsystem_place file M s

  header_sound : SoundField header_tag header_length header_in_range file
  unfolding refusal_in
  header_sound =
      sound_where_unrefused header_tag header_length 0 header_in_range file
      (neither_refused (refused_at 0 (judge_header file)) (body_refusal file M N) unrefused).0

  body_unrefused : (first_of (subsystem_refusal file M) N 0 ≡ none) × (left_over file (place N) ≡ none)
  unfolding refusal_in body_refusal
  body_unrefused =
      neither_refused (first_of (subsystem_refusal file M) N 0) (left_over file (place N))
      (neither_refused (refused_at 0 (judge_header file)) (body_refusal file M N) unrefused).1

  subsystem_unrefused : (s : ℕ) → s < N → refusal_from file M (place s) ≡ none
  unfolding subsystem_refusal
  subsystem_unrefused s h = first_of_none (subsystem_refusal file M) N 0 body_unrefused.0 s (omega arith) (omega arith)

  header_bytes : take (field_size header_length) file ≡ field header_tag (header_value N M)
  unfolding header_in decoded_header
  header_bytes =
      sound_is_field header_tag header_length header_in_range file header_sound bytes ∙
      ap (field header_tag)
      (sym
      (header_put_again (value_of header_length file) (length_value_of header_length file header_sound.whole)
      header_sound.ranged))

  -- The bytes up to the place of subsystem s are the header and the subsystems before it.
  bytes_to : (s : ℕ) → s ≤ N → take (place s) file ≡ field header_tag (header_value N M) ++ flat_map subsystem_bytes (up_to (subsystem_at (table_in file)) s)
  unfolding subsystem_place
  bytes_to zero h =
      header_bytes ∙
      sym (append-nil (field header_tag (header_value N M))) ∙
      ap (λ (l : List ℕ). field header_tag (header_value N M) ++ l) (sym (flat_map_none subsystem_bytes (subsystem_at (table_in file))))
  bytes_to (suc s) h =
      one_subsystem_of_bytes file bytes M (place s) (subsystem_unrefused s (omega arith)) ∙
      ap₂ (λ (x y : List ℕ). x ++ y) (bytes_to s (omega arith)) (ap subsystem_bytes (sym (subsystem_of_reading file s (omega arith)))) ∙
      append_assoc (field header_tag (header_value N M)) (flat_map subsystem_bytes (up_to (subsystem_at (table_in file)) s)) (subsystem_bytes (subsystem_at (table_in file) s)) ∙
      ap (λ (l : List ℕ). field header_tag (header_value N M) ++ l)
      (sym (flat_map_one_more subsystem_bytes (subsystem_at (table_in file)) s) ∙
      ap (λ (k : ℕ). flat_map subsystem_bytes (up_to (subsystem_at (table_in file)) k)) (add-one s))

  -- The file is that of the table which is read.
  pub read_is_its_file : file_of (meaning (table_in file)) ≡ file
  unfolding table_in table_to
  read_is_its_file =
      sym (file_bytes (table_in file)) ∙ sym (bytes_to N (le_refl N)) ∙ take_all (place N) file (nothing_left_behind file (place N) body_unrefused.1)
