-- The steps of the writers: a field that is put into the free end of a buffer stands behind the bytes put before.
-- Assumes nothing.
use Prim.Native.Nat.{ℕ, ◌+◌, ◌-◌, ◌/◌, ◌%◌, ◌≤◌, ◌<◌}
use native.Mathlib.Nat.{div-one}
use native.Mathlib.Omega.{arith}
use mathlib.Core.Path.{◌≡◌, refl, sym, ap, ap₂, ◌∙◌}
use mathlib.Core.List.{List, [], ◌∷◌, ◌++◌, append_assoc, append-nil, flat_map}
use lib.ListN.{length, get_or, take, drop, set, length-append, length-take, length-drop, drop_of_length-le}
use lib.Seq.{ext_get_or, take_at, drop_at, drop-drop, get_or-take}
use Rattle.std.specs.Int.{w32, w64, to_be_bytes}
use Rattle.lists.specs.Range.{up_to}
use Rattle.lists.proofs.UpTo.{length_up_to, get_d_up_to}
use Rattle.stored.specs.Numbers.{big_endian, number_size}
use Rattle.stored.specs.Field.{start_size, field}
use Rattle.stored.specs.File.{number_bytes}
use Rattle.stored.specs.Write.{written, IsPut}
use Rattle.stored.proofs.Numbers.{length_big_endian, big_endian_four}
use Rattle.stored.proofs.Offsets.{part_from, part_to_the_end}
use Rattle.stored.proofs.FileLaws.{flat_map_none, flat_map_one_more, flat_map_grows}

pub length_written : (bytes buf : List ℕ) → length bytes ≤ length buf → length (written bytes buf) ≡ length buf
unfolding written
length_written bytes buf h = simp (length-append, length-drop) (omega arith)

pub written_none : (buf : List ℕ) → written [] buf ≡ buf
unfolding written
written_none buf = refl

-- What is put into the part from the next free byte on stands behind what was put before, and the rest stays.
pub written_behind : (before done bytes buf part : List ℕ) (at : ℕ) → length done ≡ at → buf ≡ written done before → part ≡ written bytes (part_from buf at) → take at buf ++ (part ++ drop (length buf - at) (drop at buf)) ≡ written (done ++ bytes) before
unfolding written
written_behind before done bytes buf part at n e f =
    let start : take at buf ≡ done = ap (take at) e ∙ take_at done (drop (length done) before) at n in
    let rest : drop at buf ≡ drop at before = ap (drop at) e ∙ drop_at done (drop (length done) before) at n ∙ ap (λ (k : ℕ). drop k before) n in
    let over : drop (length buf - at) (drop at buf) ≡ [] = drop_of_length-le (drop at buf) {i = length buf - at} (omega (arith, length-drop at buf)) in
    let put : part ≡ bytes ++ drop (length (done ++ bytes)) before =
    f ∙
    ap (λ (l : List ℕ). bytes ++ drop (length bytes) l) (part_to_the_end buf at ∙ rest) ∙
    ap (λ (l : List ℕ). bytes ++ l)
    (drop-drop (length bytes) at before ∙
    ap (λ (k : ℕ). drop k before) (ap (λ (k : ℕ). k + length bytes) (sym n) ∙ sym (length-append done bytes)))
    in
    ap₂ (λ (x y : List ℕ). x ++ y) start
    (ap₂ (λ (x y : List ℕ). x ++ y) put over ∙ append-nil (bytes ++ drop (length (done ++ bytes)) before)) ∙
    sym (append_assoc done bytes (drop (length (done ++ bytes)) before))

------------------------------------------------------------------------
-- From one writer to the next

module _ (before done buf : List ℕ) (at : ℕ) (put : IsPut done before buf at) where
  -- A writer that is lent the free end adds its bytes to those put before.
  pub put_behind : (bytes part : List ℕ) (n : ℕ) → IsPut bytes (part_from buf at) part n → IsPut (done ++ bytes) before (take at buf ++ (part ++ drop (length buf - at) (drop at buf))) (at + n)
  put_behind bytes part n more =
      record {
        counted = rw (length-append, put.counted, more.counted) refl;
        left = written_behind before done bytes buf part at (sym put.counted) put.left more.left;
      }

  -- Where p bytes are put and k more have room, the free end takes them.
  module _ (p k : ℕ) (size : length done ≡ p) (room : p + k ≤ length before) where
    buffer_keeps_its_length : length buf ≡ length before
    buffer_keeps_its_length = ap length put.left ∙ length_written done before (omega arith)

    pub free_starts_within : at ≤ length buf
    free_starts_within = omega (arith, buffer_keeps_its_length, put.counted)

    pub free_has_room : k ≤ length (part_from buf at)
    free_has_room =
        omega (arith, ap length (part_to_the_end buf at), length-drop at buf, buffer_keeps_its_length, put.counted)

    pub end_within : (bytes part : List ℕ) (n : ℕ) → IsPut bytes (part_from buf at) part n → length bytes ≡ k → at + n ≤ length before
    end_within bytes part n more e = omega (arith, put.counted, more.counted)

-- Nothing has been put where a writer starts.
pub nothing_put : (buf : List ℕ) → IsPut [] buf buf 0
nothing_put buf = record { counted = refl; left = sym (written_none buf) }

-- A loop over the first k elements of a list: the place where it is lies before k, and the element is the list's own.
module _ {A : Type 0} (k i : ℕ) (xs : List A) (h : i < length (take k xs)) where
  pub among_the_first : (n : ℕ) → k ≡ n → i < n
  among_the_first n e = omega (arith, length-take k xs, h, e)

  pub bytes_of_element : (g : A → List ℕ) (d : A) → g (get_or (take k xs) i d) ≡ g (get_or xs i d)
  bytes_of_element g d = ap g (get_or-take k xs i d (among_the_first k refl))

-- The first m elements, one by one.
pub first_elements : {A : Type 0} (d : A) (xs : List A) (m : ℕ) → m ≤ length xs → take m xs ≡ up_to (λ i. get_or xs i d) m
first_elements d xs m h =
    ext_get_or d (take m xs) (up_to (λ i. get_or xs i d) m) (omega (arith, length-take m xs, length_up_to (λ i. get_or xs i d) m, h))
    λ i k. let within : i < m = omega (arith, k, length-take m xs, h) in get_or-take m xs i d within ∙ sym (get_d_up_to (λ j. get_or xs j d) m i d within)

-- The same bytes in other words.
pub put_the_same : (bytes others before after : List ℕ) (n : ℕ) → bytes ≡ others → IsPut bytes before after n → IsPut others before after n
put_the_same bytes others before after n e put = rw (← e) put

------------------------------------------------------------------------
-- Bytes that are stored one by one

-- Bytes that are copied to the start of a buffer in one go, and those of a number.
pub copied_is_put : (buf bytes copy : List ℕ) (n : ℕ) → copy ≡ bytes → length bytes ≡ n → IsPut bytes buf (copy ++ drop n buf) n
unfolding written
copied_is_put buf bytes copy n e size = record { counted = sym size; left = rw (e, size) refl }

pub number_copied : (buf bytes : List ℕ) (x : ℕ) → bytes ≡ to_be_bytes w32 x → IsPut (number_bytes x) buf (bytes ++ drop number_size buf) number_size
unfolding number_bytes
number_copied buf bytes x e = copied_is_put buf (number_bytes x) bytes number_size (e ∙ sym (big_endian_four x)) (length_big_endian number_size x)

one_store : (buf : List ℕ) (a : ℕ) → 1 ≤ length buf → set buf 0 a ≡ a ∷ drop 1 buf
one_store [] a h = absurd (omega arith)
one_store (x ∷ rest) a h = refl

pub byte_is_put : (buf : List ℕ) (x : ℕ) → 1 ≤ length buf → IsPut (x ∷ []) buf (set buf 0 x) 1
unfolding written
byte_is_put buf x h = record { counted = refl; left = one_store buf x h }

-- Tag and length, as they are copied: of the length the two lowest of the bytes that the program has of it.
pub start_copied : (buf : List ℕ) (tag len : ℕ) (bytes copy : List ℕ) → bytes ≡ to_be_bytes w64 len → copy ≡ tag ∷ get_or bytes 6 0 ∷ get_or bytes 7 0 ∷ [] → IsPut ((tag ∷ []) ++ big_endian 2 len) buf (copy ++ drop start_size buf) start_size
unfolding big_endian
start_copied buf tag len bytes copy e f =
    copied_is_put buf ((tag ∷ []) ++ big_endian 2 len) copy start_size
    (rw (f, e) (ap (λ (x : ℕ). tag ∷ len / 256 % 256 ∷ x % 256 ∷ []) (sym (div-one len))))
    refl

-- A value behind tag and length makes the field.
pub field_of_start : (tag : ℕ) (v : List ℕ) (len : ℕ) → length v ≡ len → ((tag ∷ []) ++ big_endian 2 len) ++ v ≡ field tag v
unfolding field
field_of_start tag v len e = rw (← e) (append_assoc (tag ∷ []) (big_endian 2 (length v)) v)

pub length_start : (tag len : ℕ) → length ((tag ∷ []) ++ big_endian 2 len) ≡ start_size
unfolding big_endian
length_start tag len = refl

------------------------------------------------------------------------
-- A list that is put element by element

pub put_keeps_length : (before done buf : List ℕ) (at : ℕ) → IsPut done before buf at → length done ≤ length before → length buf ≡ length before
put_keeps_length before done buf at put h = ap length put.left ∙ length_written done before h

module _ {A : Type 0} (g : A → List ℕ) (f : ℕ → A) (before : List ℕ) where
  pub list_begins : IsPut (flat_map g (up_to f 0)) before before 0
  list_begins = put_the_same [] _ before before 0 (sym (flat_map_none g f)) (nothing_put before)

  -- Element i of n, with i elements put before it: where the whole list has room, the free end takes it.
  module _ (n i at : ℕ) (buf : List ℕ) (below : i < n) (room : length (flat_map g (up_to f n)) ≤ length before) (put : IsPut (flat_map g (up_to f i)) before buf at) where
    element_has_room : length (flat_map g (up_to f i)) + length (g (f i)) ≤ length before
    element_has_room =
        omega (
          arith,
          flat_map_grows g f (i + 1) n (omega arith),
          ap length (flat_map_one_more g f i),
          length-append (flat_map g (up_to f i)) (g (f i)),
        )

    pub list_starts_within : at ≤ length buf
    list_starts_within = free_starts_within before _ buf at put _ (length (g (f i))) refl element_has_room

    pub list_has_room : (k : ℕ) → length (g (f i)) ≡ k → k ≤ length (part_from buf at)
    list_has_room k e = omega (arith, free_has_room before _ buf at put _ (length (g (f i))) refl element_has_room)

    module _ (part : List ℕ) (k : ℕ) (more : IsPut (g (f i)) (part_from buf at) part k) where
      pub list_ends_within : at + k ≤ length before
      list_ends_within = end_within before _ buf at put _ (length (g (f i))) refl element_has_room (g (f i)) part k more refl

      pub list_goes_on : IsPut (flat_map g (up_to f (i + 1))) before (take at buf ++ (part ++ drop (length buf - at) (drop at buf))) (at + k)
      list_goes_on =
          put_the_same _ _ before _ (at + k) (sym (flat_map_one_more g f i))
          (put_behind before (flat_map g (up_to f i)) buf at put (g (f i)) part k more)

  -- All n elements are put.
  pub list_ends : (n i at : ℕ) (buf : List ℕ) → i ≤ n → n ≤ i → IsPut (flat_map g (up_to f i)) before buf at → IsPut (flat_map g (up_to f n)) before buf at
  list_ends n i at buf h k put =
      let e : i ≡ n = omega arith in put_the_same _ _ before buf at (ap (λ (j : ℕ). flat_map g (up_to f j)) e) put
