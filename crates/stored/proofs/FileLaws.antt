-- Laws of a file's bytes: lists of fields grow field by field, and how long each part is. Assumes nothing.
use Prim.Native.Nat.{ℕ, zero, suc, ◌+◌, ◌*◌, ◌≤◌, ◌<◌}
use native.Mathlib.Nat.{zero-mul, suc-mul, mul_comm, eq-or-lt_of_le, le_trans}
use native.Mathlib.Numerals.{add-one}
use native.Mathlib.Omega.{arith}
use mathlib.Core.Path.{◌≡◌, refl, sym, ap, ◌∙◌}
use mathlib.Core.Logic.{⊎_elim}
use mathlib.Core.List.{List, [], ◌∷◌, ◌++◌, append_assoc, append-nil, flat_map}
use lib.ListN.{length, get_or, length-append}
use Rattle.lists.specs.Range.{up_to}
use Rattle.lists.proofs.UpTo.{length_up_to}
use Rattle.table.specs.declared.Task.{Task}
use Rattle.table.specs.declared.Subsystem.{Subsystem}
use Rattle.table.specs.declared.Table.{Table}
use Rattle.table.specs.Meaning.{TaskM, access_at, task_m, task_at, subsystem_m, subsystem_at, meaning, past_subsystems}
use Rattle.table.proofs.Parts.{count_of_tasks, count_of_subsystems}
use Rattle.stored.specs.Numbers.{number_size}
use Rattle.stored.specs.Field.{field, field_size, header_tag, header_length, subsystem_tag, subsystem_length, task_tag, task_length}
use Rattle.stored.specs.File.{number_bytes, header_value, subsystem_value, times_bytes, task_value, task_field, subsystem_bytes, file_of}
use Rattle.stored.proofs.Numbers.{length_big_endian}

------------------------------------------------------------------------
-- The bytes of a list, one element after the other

module _ {A : Type 0} (g : A → List ℕ) where
  pub flat_map_append : (xs ys : List A) → flat_map g (xs ++ ys) ≡ flat_map g xs ++ flat_map g ys
  unfolding flat_map
  flat_map_append [] ys = refl
  flat_map_append (x ∷ xs) ys = rw (flat_map_append xs ys) (sym (append_assoc (g x) (flat_map g xs) (flat_map g ys)))

  flat_map_one : (x : A) → flat_map g (x ∷ []) ≡ g x
  unfolding flat_map
  flat_map_one x = append-nil (g x)

  pub flat_map_none : (f : ℕ → A) → flat_map g (up_to f 0) ≡ []
  unfolding flat_map up_to
  flat_map_none f = refl

  -- One element more in the list is its bytes behind the others'.
  pub flat_map_one_more : (f : ℕ → A) (n : ℕ) → flat_map g (up_to f (n + 1)) ≡ flat_map g (up_to f n) ++ g (f n)
  unfolding up_to
  flat_map_one_more f n =
      rw add-one (flat_map_append (up_to f n) (f n ∷ []) ∙ ap (λ (l : List ℕ). flat_map g (up_to f n) ++ l) (flat_map_one (f n)))

  -- The first elements have no more bytes than all.
  pub flat_map_grows : (f : ℕ → A) (k n : ℕ) → k ≤ n → length (flat_map g (up_to f k)) ≤ length (flat_map g (up_to f n))
  flat_map_grows f k zero h = let e : k ≡ 0 = omega arith in rw e (omega arith)
  flat_map_grows f k (suc n) h =
      ⊎_elim (λ (e : k ≡ suc n). rw e (omega arith))
      (λ (l : k < suc n).
      le_trans (flat_map_grows f k n (omega arith))
      (rw (← add-one n, flat_map_one_more f n, length-append) (omega arith)))
      (eq-or-lt_of_le h)

  -- The bytes of element i stand behind those of the elements before it.
  pub flat_map_split : (f : ℕ → A) (n i : ℕ) → i < n → (tail : List ℕ) × (flat_map g (up_to f n) ≡ flat_map g (up_to f i) ++ (g (f i) ++ tail))
  flat_map_split f zero i h = absurd (omega arith)
  flat_map_split f (suc n) i h =
      ⊎_elim
      (λ (e : i ≡ n). (
        [],
        rw (e, append-nil (g (f n)), ← add-one n) (flat_map_one_more f n),
      ))
      (λ (l : i < n).
      let r = flat_map_split f n i l in (
        r.0 ++ g (f n),
        rw (← add-one n, flat_map_one_more f n, r.1)
            (append_assoc (flat_map g (up_to f i)) (g (f i) ++ r.0) (g (f n)) ∙
            ap (λ (l : List ℕ). flat_map g (up_to f i) ++ l) (append_assoc (g (f i)) r.0 (g (f n)))),
      ))
      (eq-or-lt_of_le {n = i} {m = n} (omega arith))

  -- Elements of k bytes each.
  pub length_flat_map : (k : ℕ) → ((x : A) → length (g x) ≡ k) → (xs : List A) → length (flat_map g xs) ≡ length xs * k
  unfolding flat_map
  length_flat_map k h [] = sym (zero-mul k)
  length_flat_map k h (x ∷ xs) =
      rw (length-append, h x, length_flat_map k h xs, suc-mul) (omega arith)

------------------------------------------------------------------------
-- How long each part is

pub length_field : (tag : ℕ) (v : List ℕ) → length (field tag v) ≡ field_size (length v)
unfolding field
length_field tag v = simp (length-append, length_big_endian) (omega arith)

pub length_number_bytes : (x : ℕ) → length (number_bytes x) ≡ number_size
unfolding number_bytes
length_number_bytes x = length_big_endian number_size x

pub length_pair : (x y : ℕ) → length (number_bytes x ++ number_bytes y) ≡ 2 * number_size
length_pair x y = simp (length-append, length_number_bytes)

pub length_times : (x y z : ℕ) → length (times_bytes x y z) ≡ task_length 0
unfolding times_bytes
length_times x y z = simp (length-append, length_number_bytes)

pub length_header_value : (n m : ℕ) → length (header_value n m) ≡ header_length
unfolding header_value
length_header_value n m = refl

pub length_subsystem_value : (p q n : ℕ) → length (subsystem_value p q n) ≡ subsystem_length
unfolding subsystem_value
length_subsystem_value p q n =
    simp (length-append, length_number_bytes)

pub length_accesses : (cs : List ℕ) → length (flat_map number_bytes cs) ≡ number_size * length cs
length_accesses cs = length_flat_map number_bytes number_size length_number_bytes cs ∙ mul_comm (length cs) number_size

-- The accesses of a table's task to its first m resources.
pub length_access_bytes : (t : Task) (m : ℕ) → length (flat_map number_bytes (up_to (access_at t) m)) ≡ number_size * m
length_access_bytes t m = length_accesses (up_to (access_at t) m) ∙ ap (λ (k : ℕ). number_size * k) (length_up_to (access_at t) m)

pub length_task_value_lem : (t : TaskM) → length (task_value t) ≡ task_length (length t.accesses)
unfolding task_value times_bytes
length_task_value_lem t = simp (length-append, length_number_bytes, length_accesses) (omega arith)

-- The tasks of a table's subsystem all have M accesses, so their fields are equally long.
pub length_task_value : (m : ℕ) (t : Task) → length (task_value (task_m m t)) ≡ task_length m
unfolding task_m
length_task_value m t = length_task_value_lem (task_m m t) ∙ ap task_length (length_up_to (access_at t) m)

pub length_task_at : (m : ℕ) (sub : Subsystem) (i : ℕ) → length (task_field (task_at m sub i)) ≡ field_size (task_length m)
unfolding task_field task_at
length_task_at m sub i =
    length_field task_tag (task_value (task_at m sub i)) ∙ ap field_size (length_task_value m _)

pub length_first_tasks : (m : ℕ) (sub : Subsystem) (i : ℕ) → length (flat_map task_field (up_to (task_at m sub) i)) ≡ i * field_size (task_length m)
length_first_tasks m sub zero = rw (flat_map_none task_field (task_at m sub)) (sym (zero-mul (field_size (task_length m))))
length_first_tasks m sub (suc i) =
    rw (
      ← add-one i,
      flat_map_one_more task_field (task_at m sub) i,
      length-append,
      length_first_tasks m sub i,
      length_task_at m sub i,
      add-one i,
    )
    (sym (suc-mul i (field_size (task_length m))))

-- The bytes of a table's subsystem: its own field, and its tasks' fields.
pub subsystem_bytes_lem : (m : ℕ) (sub : Subsystem) → field subsystem_tag (subsystem_value sub.period sub.budget sub.count) ++ flat_map task_field (up_to (task_at m sub) sub.count) ≡ subsystem_bytes (subsystem_m m sub)
unfolding subsystem_bytes subsystem_m
subsystem_bytes_lem m sub =
    ap
    (λ (n : ℕ).
    field subsystem_tag (subsystem_value sub.period sub.budget n) ++
    flat_map task_field (up_to (task_at m sub) sub.count))
    (sym (count_of_tasks m sub))

pub length_subsystem_field : (p q n : ℕ) → length (field subsystem_tag (subsystem_value p q n)) ≡ field_size subsystem_length
length_subsystem_field p q n =
    length_field subsystem_tag (subsystem_value p q n) ∙ ap field_size (length_subsystem_value p q n)

pub length_subsystem_parts : (m : ℕ) (sub : Subsystem) → length (subsystem_bytes (subsystem_m m sub)) ≡ field_size subsystem_length + length (flat_map task_field (up_to (task_at m sub) sub.count))
length_subsystem_parts m sub =
    rw (← subsystem_bytes_lem m sub, length-append, length_subsystem_field sub.period sub.budget sub.count) refl

pub length_subsystem_bytes : (m : ℕ) (sub : Subsystem) → length (subsystem_bytes (subsystem_m m sub)) ≡ field_size subsystem_length + sub.count * field_size (task_length m)
length_subsystem_bytes m sub =
    length_subsystem_parts m sub ∙ ap (λ (k : ℕ). field_size subsystem_length + k) (length_first_tasks m sub sub.count)

pub length_header : (n m : ℕ) → length (field header_tag (header_value n m)) ≡ field_size header_length
length_header n m = length_field header_tag (header_value n m) ∙ ap field_size (length_header_value n m)

-- The file of a table: its header, and its subsystems one after the other.
pub file_bytes : (t : Table) → field header_tag (header_value t.count t.resources) ++ flat_map subsystem_bytes (up_to (subsystem_at t) t.count) ≡ file_of (meaning t)
unfolding file_of meaning
file_bytes t =
    ap
    (λ (n : ℕ). field header_tag (header_value n t.resources) ++ flat_map subsystem_bytes (up_to (subsystem_at t) t.count))
    (sym (count_of_subsystems t))

pub length_file_parts : (t : Table) → length (file_of (meaning t)) ≡ field_size header_length + length (flat_map subsystem_bytes (up_to (subsystem_at t) t.count))
length_file_parts t = rw (← file_bytes t, length-append, length_header t.count t.resources) refl

-- One subsystem more: its own field, and its tasks' fields.
pub length_one_subsystem_more : (t : Table) (s total n : ℕ) → total ≡ field_size header_length + length (flat_map subsystem_bytes (up_to (subsystem_at t) s)) → n ≡ (get_or t.subsystems s past_subsystems).count → total + (field_size subsystem_length + n * field_size (task_length t.resources)) ≡ field_size header_length + length (flat_map subsystem_bytes (up_to (subsystem_at t) (s + 1)))
unfolding subsystem_at
length_one_subsystem_more t s total n e f =
    rw (f, e)
    (omega (
      arith,
      ap length (flat_map_one_more subsystem_bytes (subsystem_at t) s),
      length-append (flat_map subsystem_bytes (up_to (subsystem_at t) s)) (subsystem_bytes (subsystem_at t s)),
      length_subsystem_bytes t.resources (get_or t.subsystems s past_subsystems),
    ))
