-- Laws of the values of the three kinds of field, both ways: decoding what was put gives it back, and putting what was
-- decoded gives the bytes back. Assumes nothing.
use Prim.Native.Nat.{ℕ, zero, suc, ◌+◌, ◌*◌, ◌^◌, ◌≤◌, ◌<◌}
use native.Mathlib.Numerals.{add-one}
use native.Mathlib.Omega.{arith}
use borrow.Author.Tests.{eqb-true}
use mathlib.Core.Path.{◌≡◌, refl, sym, ap, ap₂, ◌∙◌}
use mathlib.Core.Bool.{true}
use mathlib.Core.List.{List, [], ◌∷◌, ◌++◌, append_assoc, flat_map}
use lib.Dec.{eqb}
use lib.ListN.{length, get_or, take, drop, length-append, length-drop, take-append-drop, drop_of_length-le}
use lib.Seq.{take-add, take_all, drop-cons, drop-drop, get_or_at}
use Rattle.lists.specs.Range.{up_to}
use Rattle.lists.proofs.UpTo.{length_up_to, get_d_padded, up_to_ext}
use Rattle.table.specs.Limits.{most}
use Rattle.table.specs.declared.Task.{Task}
use Rattle.table.specs.Meaning.{access_at, task_m}
use Rattle.table.proofs.Parts.{access_of_slot}
use Rattle.stored.specs.Held.{HeldTask}
use Rattle.stored.specs.Numbers.{number_size, number_at, AreBytes}
use Rattle.stored.specs.Field.{version, header_length, subsystem_length, count_at, task_length}
use Rattle.stored.specs.Judge.{header_in_range}
use Rattle.stored.specs.Decode.{decoded_access, decoded_task}
use Rattle.stored.specs.File.{number_bytes, header_value, subsystem_value, times_bytes, task_value}
use Rattle.stored.proofs.FileLaws.{flat_map_none, flat_map_one_more, flat_map_split, length_number_bytes, length_pair, length_times, length_accesses}
use Rattle.stored.proofs.FieldLaws.{number_behind, bytes_of_number}
use Rattle.stored.proofs.InRange.{and_left}

------------------------------------------------------------------------
-- A header

three_bytes : (v : List ℕ) → length v ≡ 3 → v ≡ get_or v 0 0 ∷ get_or v 1 0 ∷ get_or v 2 0 ∷ []
three_bytes [] e = absurd (omega arith)
three_bytes (a ∷ []) e = absurd (omega arith)
three_bytes (a ∷ b ∷ []) e = absurd (omega arith)
three_bytes (a ∷ b ∷ c ∷ []) e = refl
three_bytes (a ∷ b ∷ c ∷ d ∷ rest) e = absurd (omega arith)

pub header_put_again : (v : List ℕ) → length v ≡ header_length → header_in_range v ≡ true → header_value (get_or v 1 0) (get_or v 2 0) ≡ v
unfolding header_in_range header_value
header_put_again v e r =
    sym
    (three_bytes v e ∙
    ap (λ (x : ℕ). x ∷ get_or v 1 0 ∷ get_or v 2 0 ∷ [])
    (eqb-true (get_or v 0 0) version (and_left (eqb (get_or v 0 0) version) _ r)))

------------------------------------------------------------------------
-- A subsystem

module _ (p q n : ℕ) where
  pub period_of_value : p < 2 ^ 32 → number_at (subsystem_value p q n) 0 ≡ p
  unfolding subsystem_value
  period_of_value h =
      ap (λ (v : List ℕ). number_at v 0) (append_assoc (number_bytes p) (number_bytes q) (n ∷ [])) ∙
      number_behind [] (number_bytes q ++ (n ∷ [])) p 0 refl h

  pub budget_of_value : q < 2 ^ 32 → number_at (subsystem_value p q n) number_size ≡ q
  unfolding subsystem_value
  budget_of_value h =
      ap (λ (v : List ℕ). number_at v number_size) (append_assoc (number_bytes p) (number_bytes q) (n ∷ [])) ∙
      number_behind (number_bytes p) (n ∷ []) q number_size (length_number_bytes p) h

  pub count_of_value : get_or (subsystem_value p q n) count_at 0 ≡ n
  unfolding subsystem_value
  count_of_value = get_or_at (number_bytes p ++ number_bytes q) n [] 0 count_at (length_pair p q)

one_left : (v : List ℕ) (k : ℕ) → length v ≡ suc k → drop k v ≡ get_or v k 0 ∷ []
one_left v k e =
    drop-cons v k 0 (omega arith) ∙
    ap (λ (l : List ℕ). get_or v k 0 ∷ l) (drop_of_length-le v {i = suc k} (omega arith))

-- The first two numbers of a value.
two_numbers : (v : List ℕ) → AreBytes v → 2 * number_size ≤ length v → number_bytes (number_at v 0) ++ number_bytes (number_at v number_size) ≡ take (2 * number_size) v
two_numbers v bytes h =
    ap₂ (λ (x y : List ℕ). x ++ y) (bytes_of_number v 0 bytes (omega arith))
    (bytes_of_number v number_size bytes (omega arith)) ∙
    sym (take-add number_size number_size v)

pub subsystem_put_again : (v : List ℕ) → AreBytes v → length v ≡ subsystem_length → subsystem_value (number_at v 0) (number_at v number_size) (get_or v count_at 0) ≡ v
unfolding subsystem_value
subsystem_put_again v bytes e =
    ap₂ (λ (x y : List ℕ). x ++ y) (two_numbers v bytes (omega arith)) (sym (one_left v count_at e)) ∙
    take-append-drop count_at v

------------------------------------------------------------------------
-- A task: decoding what was put

module _ (x y z : ℕ) (rest : List ℕ) where
  separation_of_bytes : x < 2 ^ 32 → number_at (times_bytes x y z ++ rest) 0 ≡ x
  unfolding times_bytes
  separation_of_bytes h =
      ap (λ (v : List ℕ). number_at v 0)
      (append_assoc (number_bytes x ++ number_bytes y) (number_bytes z) rest ∙
      append_assoc (number_bytes x) (number_bytes y) (number_bytes z ++ rest)) ∙
      number_behind [] (number_bytes y ++ (number_bytes z ++ rest)) x 0 refl h

  work_of_bytes : y < 2 ^ 32 → number_at (times_bytes x y z ++ rest) number_size ≡ y
  unfolding times_bytes
  work_of_bytes h =
      ap (λ (v : List ℕ). number_at v number_size)
      (append_assoc (number_bytes x ++ number_bytes y) (number_bytes z) rest ∙
      append_assoc (number_bytes x) (number_bytes y) (number_bytes z ++ rest)) ∙
      number_behind (number_bytes x) (number_bytes z ++ rest) y number_size (length_number_bytes x) h

  deadline_of_bytes : z < 2 ^ 32 → number_at (times_bytes x y z ++ rest) (2 * number_size) ≡ z
  unfolding times_bytes
  deadline_of_bytes h =
      ap (λ (v : List ℕ). number_at v (2 * number_size))
      (append_assoc (number_bytes x ++ number_bytes y) (number_bytes z) rest) ∙
      number_behind (number_bytes x ++ number_bytes y) rest z (2 * number_size) (length_pair x y) h

access_of_bytes : (x y z m l : ℕ) (f : ℕ → ℕ) → l < m → f l < 2 ^ 32 → decoded_access (times_bytes x y z ++ flat_map number_bytes (up_to f m)) l ≡ f l
unfolding decoded_access
access_of_bytes x y z m l f h k =
    let split = flat_map_split number_bytes f m l h in
    let before = times_bytes x y z ++ flat_map number_bytes (up_to f l) in
    let size : length before ≡ task_length l =
    length-append (times_bytes x y z) (flat_map number_bytes (up_to f l)) ∙
    ap₂ ◌+◌ (length_times x y z)
    (length_accesses (up_to f l) ∙ ap (λ (n : ℕ). number_size * n) (length_up_to f l))
    in
    ap (λ (v : List ℕ). number_at v (task_length l))
    (ap (λ (v : List ℕ). times_bytes x y z ++ v) split.1 ∙
    sym (append_assoc (times_bytes x y z) (flat_map number_bytes (up_to f l)) (number_bytes (f l) ++ split.0))) ∙
    number_behind before split.0 (f l) (task_length l) size k

-- A task that was put is decoded as one that means the same.
pub task_decoded : (m : ℕ) (t : Task) → HeldTask (task_m m t) → task_m m (decoded_task m (task_value (task_m m t))) ≡ task_m m t
unfolding task_m decoded_task task_value access_at
task_decoded m t held =
    let v = task_value (task_m m t) in
    let rest = flat_map number_bytes (up_to (access_at t) m) in
    let s = separation_of_bytes t.separation t.work t.deadline rest held.separation in
    let w = work_of_bytes t.separation t.work t.deadline rest held.work in
    let d = deadline_of_bytes t.separation t.work t.deadline rest held.deadline in
    let c = up_to_ext (access_at (decoded_task m v)) (access_at t) m access_decoded in
    λ i. record { separation = s i; work = w i; deadline = d i; accesses = c i }
  where
    access_decoded : (l : ℕ) → l < m → access_at (decoded_task m (task_value (task_m m t))) l ≡ access_at t l
    access_decoded l h =
        get_d_padded (decoded_access (task_value (task_m m t))) 0 0 most m l h ∙
        access_of_bytes t.separation t.work t.deadline m l (access_at t) h (rw (← access_of_slot m t l h) (held.access l))

------------------------------------------------------------------------
-- A task: putting what was decoded

accesses_put_again : (v : List ℕ) → AreBytes v → (l : ℕ) → task_length l ≤ length v → flat_map number_bytes (up_to (decoded_access v) l) ≡ take (number_size * l) (drop (task_length 0) v)
unfolding decoded_access
accesses_put_again v bytes zero h = flat_map_none number_bytes (decoded_access v)
accesses_put_again v bytes (suc l) h =
    let four : number_size * suc l ≡ number_size * l + number_size = omega arith in
    rw (four, take-add (number_size * l) number_size (drop (task_length 0) v), drop-drop (number_size * l) (task_length 0) v)
    (ap (λ (n : ℕ). flat_map number_bytes (up_to (decoded_access v) n)) (sym (add-one l)) ∙
    flat_map_one_more number_bytes (decoded_access v) l ∙
    ap₂ (λ (x y : List ℕ). x ++ y) (accesses_put_again v bytes l (omega arith))
    (bytes_of_number v (task_length l) bytes (omega arith)))

pub task_put_again : (m : ℕ) (v : List ℕ) → AreBytes v → length v ≡ task_length m → task_value (task_m m (decoded_task m v)) ≡ v
unfolding task_value task_m decoded_task times_bytes access_at
task_put_again m v bytes e =
    ap₂ (λ (x y : List ℕ). x ++ y)
    (ap₂ (λ (x y : List ℕ). x ++ y) (two_numbers v bytes (omega arith)) (bytes_of_number v (2 * number_size) bytes (omega arith)) ∙
    sym (take-add (2 * number_size) number_size v))
    (ap (flat_map number_bytes) (up_to_ext (access_at (decoded_task m v)) (decoded_access v) m access_decoded) ∙
    accesses_put_again v bytes m (omega arith) ∙
    take_all (number_size * m) (drop (task_length 0) v) (omega (arith, length-drop (task_length 0) v))) ∙
    take-append-drop (task_length 0) v
  where
    access_decoded : (l : ℕ) → l < m → access_at (decoded_task m v) l ≡ decoded_access v l
    access_decoded l h = get_d_padded (decoded_access v) 0 0 most m l h
