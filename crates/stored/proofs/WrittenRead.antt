-- A file that was written is read without a refusal, as a table that means the same. Assumes nothing.
use Prim.Native.Nat.{ℕ, zero, suc, ◌+◌, ◌*◌, ◌≤◌, ◌<◌}
use native.Mathlib.Nat.{le_of_eq, le_refl}
use native.Mathlib.Numerals.{add-one}
use native.Mathlib.Omega.{arith}
use borrow.Author.Tests.{le-leb, le-ltb}
use mathlib.Core.Path.{◌≡◌, refl, ap, ◌∙◌}
use mathlib.Core.Bool.{true, not}
use mathlib.Core.Option.{none}
use mathlib.Core.List.{List, ◌++◌, flat_map}
use lib.ListN.{length, get_or, drop, length-append}
use Rattle.std.specs.Prelude.{Ok}
use Rattle.lists.specs.Range.{first_of, up_to}
use Rattle.lists.proofs.First.{first_of_nowhere}
use Rattle.lists.proofs.UpTo.{up_to_ext}
use Rattle.table.specs.Limits.{most}
use Rattle.table.specs.declared.Subsystem.{Subsystem}
use Rattle.table.specs.declared.Table.{Table}
use Rattle.table.specs.Meaning.{past_tasks, past_subsystems, task_m, task_at, subsystem_m, subsystem_at, meaning}
use Rattle.table.proofs.Parts.{task_of_slot, subsystem_of_slot}
use Rattle.rules.specs.Rules.{count_out}
use Rattle.rules.specs.Slots.{CountedTable}
use Rattle.stored.specs.Field.{field_size, field, header_tag, header_length, subsystem_tag, subsystem_length, task_tag, task_length}
use Rattle.stored.specs.Judge.{header_in_range, subsystem_in_range, any_value, judge_header, judge_subsystem, judge_task}
use Rattle.stored.specs.Decode.{decoded_header, decoded_subsystem, decoded_task}
use Rattle.stored.specs.File.{header_value, subsystem_value, task_value, task_field, subsystem_bytes, file_of}
use Rattle.stored.specs.Read.{refused_at, header_in, head_at, task_place, place_behind, subsystem_place, task_refusal, tasks_refusal, refusal_from, subsystem_refusal, left_over, body_refusal, refusal_in, task_read, subsystem_to, subsystem_from, table_to, table_in}
use Rattle.stored.specs.Held.{HeldSubsystem, Held}
use Rattle.stored.proofs.FileLaws.{flat_map_one_more, flat_map_none, file_bytes, length_file_parts, length_header, length_header_value, subsystem_bytes_lem, length_subsystem_field, length_subsystem_value, length_subsystem_bytes, length_first_tasks, length_task_value}
use Rattle.stored.proofs.ValueLaws.{period_of_value, budget_of_value, count_of_value, task_decoded}
use Rattle.stored.proofs.ReadMeaning.{task_of_reading, subsystem_of_reading}
use Rattle.stored.proofs.Stands.{Stands, file_stands, first_stands, second_stands, element_stands, field_judged, field_valued}

-- A count within its limits is not out of range.
count_passes : (n : ℕ) → 1 ≤ n → n ≤ most → not (count_out n) ≡ true
count_passes n h k = rw (le-ltb n 1 h, le-ltb most n k) refl

module _ (t : Table) (some : 1 ≤ t.count) (counts : CountedTable t) where
  -- Where subsystem s stands: behind the header and the subsystems before it.
  abbrev place : ℕ → ℕ
  place s = field_size header_length + length (flat_map subsystem_bytes (up_to (subsystem_at t) s))

  abbrev slot : ℕ → Subsystem
  slot s = get_or t.subsystems s past_subsystems

  abbrev file : List ℕ
  file = file_of (meaning t)

  abbrev header : List ℕ
  header = field header_tag (header_value t.count t.resources)

  abbrev body : List ℕ
  body = flat_map subsystem_bytes (up_to (subsystem_at t) t.count)

  header_and_body_stand : Stands file 0 (header ++ body)
  header_and_body_stand = rw (file_bytes t) (file_stands (file_of (meaning t)))

  header_stands : Stands file 0 header
  header_stands = first_stands file 0 header body header_and_body_stand

  subsystem_stands : (s : ℕ) → s < t.count → Stands file (place s) (subsystem_bytes (subsystem_m t.resources (slot s)))
  unfolding subsystem_at
  subsystem_stands s h =
      element_stands file (field_size header_length) subsystem_bytes (subsystem_at t) t.count s (length (flat_map subsystem_bytes (up_to (subsystem_at t) s))) h refl
      (second_stands file 0 header body (field_size header_length) (length_header t.count t.resources) header_and_body_stand)

  -- A subsystem's own field, and its tasks' fields.
  module _ (s : ℕ) (h : s < t.count) where
    abbrev head : List ℕ
    head = subsystem_value (slot s).period (slot s).budget (slot s).count

    abbrev tasks : List ℕ
    tasks = flat_map task_field (up_to (task_at t.resources (slot s)) (slot s).count)

    parts_stand : Stands file (place s) (field subsystem_tag head ++ tasks)
    parts_stand = rw (subsystem_bytes_lem t.resources (slot s)) (subsystem_stands s h)

    head_stands : Stands file (place s) (field subsystem_tag head)
    head_stands = first_stands file (place s) (field subsystem_tag head) tasks parts_stand

    task_stands : (i : ℕ) → i < (slot s).count → Stands file (task_place t.resources (place s) i) (task_field (task_at t.resources (slot s) i))
    unfolding task_place
    task_stands i l =
        element_stands file (place s + field_size subsystem_length) task_field (task_at t.resources (slot s)) (slot s).count i (i * field_size (task_length t.resources)) l (length_first_tasks t.resources (slot s) i)
        (second_stands file (place s) (field subsystem_tag head) tasks (field_size subsystem_length) (length_subsystem_field (slot s).period (slot s).budget (slot s).count) parts_stand)

    head_is : head_at file (place s) ≡ decoded_subsystem head
    unfolding head_at
    head_is = ap decoded_subsystem (field_valued file (place s) subsystem_tag subsystem_length head (length_subsystem_value (slot s).period (slot s).budget (slot s).count) head_stands)

    count_is : (head_at file (place s)).count ≡ (slot s).count
    unfolding decoded_subsystem
    count_is = ap (λ (u : Subsystem). u.count) head_is ∙ count_of_value (slot s).period (slot s).budget (slot s).count

    next_place : place_behind file t.resources (place s) ≡ place (s + 1)
    unfolding place_behind task_place subsystem_at
    next_place =
        rw (count_is, flat_map_one_more subsystem_bytes (subsystem_at t) s, length-append)
        (omega (arith, length_subsystem_bytes t.resources (slot s)))

    ------------------------------------------------------------------------
    -- Nothing of it is refused

    head_is_sound : judge_subsystem (drop (place s) file) ≡ Ok subsystem_length
    unfolding subsystem_in_range
    head_is_sound =
        field_judged file (place s) subsystem_tag subsystem_length head (length_subsystem_value (slot s).period (slot s).budget (slot s).count) head_stands subsystem_in_range (omega arith)
        (rw (count_of_value (slot s).period (slot s).budget (slot s).count) (count_passes (slot s).count (counts.some_task s h) (counts.tasks_most s h)))

    task_is_sound : (i : ℕ) → i < (slot s).count → judge_task t.resources (drop (task_place t.resources (place s) i) file) ≡ Ok (task_length t.resources)
    unfolding task_field task_at any_value
    task_is_sound i l =
        let value = task_value (task_at t.resources (slot s) i) in
        field_judged file (task_place t.resources (place s) i) task_tag (task_length t.resources) value (length_task_value t.resources (get_or (slot s).tasks i past_tasks)) (task_stands i l) any_value
        (omega (arith, counts.resources_most))
        refl

    no_refusal_from : refusal_from file t.resources (place s) ≡ none
    unfolding refusal_from tasks_refusal task_refusal
    no_refusal_from =
        rw (head_is_sound, count_is)
        (first_of_nowhere (task_refusal file t.resources (place s)) (slot s).count 0
        (λ i l u. ap (refused_at (task_place t.resources (place s) i)) (task_is_sound i (omega arith))))

  -- Subsystem s stands where the reader looks for it.
  places_agree : (s : ℕ) → s ≤ t.count → subsystem_place file t.resources s ≡ place s
  unfolding subsystem_place
  places_agree zero h = rw (flat_map_none subsystem_bytes (subsystem_at t)) refl
  places_agree (suc s) h =
      ap (place_behind file t.resources) (places_agree s (omega arith)) ∙
      next_place s (omega arith) ∙
      ap place (add-one s)

  header_is_sound : judge_header file ≡ Ok header_length
  unfolding header_in_range header_value
  header_is_sound =
      field_judged file 0 header_tag header_length (header_value t.count t.resources) (length_header_value t.count t.resources) header_stands header_in_range (omega arith)
      (rw (count_passes t.count some counts.subsystems_most, le-leb t.resources most counts.resources_most) refl)

  header_is : header_in file ≡ decoded_header (header_value t.count t.resources)
  unfolding header_in
  header_is = ap decoded_header (field_valued file 0 header_tag header_length (header_value t.count t.resources) (length_header_value t.count t.resources) header_stands)

  NIs : (header_in file).count ≡ t.count
  unfolding decoded_header header_value
  NIs = ap (λ (u : Table). u.count) header_is

  MIs : (header_in file).resources ≡ t.resources
  unfolding decoded_header header_value
  MIs = ap (λ (u : Table). u.resources) header_is

  nothing_left_over : left_over file (place t.count) ≡ none
  unfolding left_over
  nothing_left_over = rw (le-ltb (place t.count) (length file) (le_of_eq (length_file_parts t))) refl

  no_subsystem_refused : (s : ℕ) → s < t.count → subsystem_refusal file t.resources s ≡ none
  unfolding subsystem_refusal
  no_subsystem_refused s h =
      ap (refusal_from file t.resources) (places_agree s (omega arith)) ∙ no_refusal_from s h

  -- The file of a table with counts in range is refused nowhere.
  pub written_is_unrefused : refusal_in file ≡ none
  unfolding refusal_in body_refusal
  written_is_unrefused =
      let all : first_of (subsystem_refusal file t.resources) t.count 0 ≡ none = first_of_nowhere (subsystem_refusal file t.resources) t.count 0 (λ s l u. no_subsystem_refused s (omega arith)) in
      rw (header_is_sound, NIs, MIs, all, places_agree t.count (le_refl t.count)) nothing_left_over

  ------------------------------------------------------------------------
  -- What is read means the same

  module _ (held : Held (meaning t)) where
    module _ (s : ℕ) (h : s < t.count) where
      held_slot : HeldSubsystem (subsystem_m t.resources (slot s))
      held_slot = rw (← subsystem_of_slot t s h) (held.subsystem s)

      task_read_back : (i : ℕ) → i < (slot s).count → task_m t.resources (task_read file t.resources (place s) i) ≡ task_at t.resources (slot s) i
      unfolding task_read task_at task_field
      task_read_back i l =
          let task = get_or (slot s).tasks i past_tasks in
          ap (λ (v : List ℕ). task_m t.resources (decoded_task t.resources v))
          (field_valued file (task_place t.resources (place s) i) task_tag (task_length t.resources) (task_value (task_m t.resources task)) (length_task_value t.resources task) (task_stands s h i l)) ∙
          task_decoded t.resources task (rw (← task_of_slot t.resources (slot s) i l) (held_slot.task i))

      tasks_read_back : up_to (task_at t.resources (subsystem_from file t.resources (place s))) (slot s).count ≡ up_to (task_at t.resources (slot s)) (slot s).count
      tasks_read_back =
          up_to_ext (task_at t.resources (subsystem_from file t.resources (place s))) (task_at t.resources (slot s)) (slot s).count
          (λ i l. task_of_reading file t.resources (place s) i (rw (count_is s h) l) ∙ task_read_back i l)

      subsystem_read_back : subsystem_m t.resources (subsystem_from file t.resources (place s)) ≡ subsystem_m t.resources (slot s)
      unfolding subsystem_m subsystem_from subsystem_to decoded_subsystem
      subsystem_read_back =
          let u = slot s in
          let p = ap (λ (v : Subsystem). v.period) (head_is s h) ∙ period_of_value u.period u.budget u.count held_slot.period in
          let q = ap (λ (v : Subsystem). v.budget) (head_is s h) ∙ budget_of_value u.period u.budget u.count held_slot.budget in
          let ts = ap (up_to (task_at t.resources (subsystem_from file t.resources (place s)))) (count_is s h) ∙ tasks_read_back in
          λ i. record { period = p i; budget = q i; tasks = ts i }

      slot_read_back : subsystem_at (table_in file) s ≡ subsystem_at t s
      unfolding subsystem_at
      slot_read_back =
          subsystem_of_reading file s (rw NIs h) ∙
          ap (λ (m : ℕ). subsystem_m m (subsystem_from file m (subsystem_place file m s))) MIs ∙
          ap (λ (a : ℕ). subsystem_m t.resources (subsystem_from file t.resources a)) (places_agree s (omega arith)) ∙
          subsystem_read_back

    -- The table that is read from a table's file means the same.
    pub written_means_the_same : meaning (table_in file) ≡ meaning t
    unfolding meaning table_in table_to
    written_means_the_same =
        let subs = ap (up_to (subsystem_at (table_in file))) NIs ∙ up_to_ext (subsystem_at (table_in file)) (subsystem_at t) t.count slot_read_back in
        λ i. record { resources = MIs i; subsystems = subs i }
