-- Laws of writing into a buffer: one byte, one thing after another, and that the length stays. Assumes nothing.
use Prim.Native.Nat.{ℕ, ◌+◌, ◌≤◌, ◌<◌}
use native.Mathlib.Nat.{add_assoc, add-zero}
use native.Mathlib.Numerals.{add-one}
use native.Mathlib.Omega.{arith}
use mathlib.Core.Path.{◌≡◌, sym, ap, ◌∙◌}
use mathlib.Core.List.{List, [], ◌∷◌, ◌++◌, append_assoc}
use lib.ListN.{length, take, drop, set, get_or, length-append, length-take, length-drop, take-append-drop}
use lib.Seq.{length-take-le, take_at, drop_at, drop-drop, set_split, take-suc}
use Rattle.lines.specs.Written.{written}

module _ (b : List ℕ) (at : ℕ) where
  -- To write nothing changes nothing.
  pub written_nothing : written b at [] ≡ b
  unfolding written
  written_nothing = rw (add-zero at) (take-append-drop at b)

  -- To store a byte is to write it.
  pub written_byte : (x : ℕ) → at < length b → set b at x ≡ written b at (x ∷ [])
  unfolding written
  written_byte x h = rw (add-one at) (set_split b at x h)

  -- The buffer keeps its length.
  pub length_written : (xs : List ℕ) → at + length xs ≤ length b → length (written b at xs) ≡ length b
  unfolding written
  length_written xs h = simp (length-append, length-take, length-drop) (omega arith)

  front_length : (xs : List ℕ) → at + length xs ≤ length b → length (take at b ++ xs) ≡ at + length xs
  front_length xs h = simp (length-append, length-take) (omega arith)

  front : (xs : List ℕ) → at + length xs ≤ length b → take (at + length xs) (written b at xs) ≡ take at b ++ xs
  unfolding written
  front xs h =
      rw (← append_assoc (take at b) xs (drop (at + length xs) b))
      (take_at (take at b ++ xs) (drop (at + length xs) b) (at + length xs) (front_length xs h))

  rest : (xs : List ℕ) → at + length xs ≤ length b → drop (at + length xs) (written b at xs) ≡ drop (at + length xs) b
  unfolding written
  rest xs h =
      rw (← append_assoc (take at b) xs (drop (at + length xs) b))
      (drop_at (take at b ++ xs) (drop (at + length xs) b) (at + length xs) (front_length xs h))

  -- One thing after another is both in a row.
  pub written_then : (xs ys : List ℕ) → at + length xs ≤ length b → written (written b at xs) (at + length xs) ys ≡ written b at (xs ++ ys)
  unfolding written
  written_then xs ys h =
      let f : take (at + length xs) (written b at xs) ≡ take at b ++ xs = front xs h in
      let g : drop (at + length xs + length ys) (written b at xs) ≡ drop (at + length xs + length ys) b
      = sym (drop-drop (length ys) (at + length xs) (written b at xs)) ∙ ap (drop (length ys)) (rest xs h) ∙ drop-drop (length ys) (at + length xs) b in
      rw (f, g, length-append xs ys, ← add_assoc at (length xs) (length ys), append_assoc (take at b) xs, append_assoc xs ys)

-- A turn of writing a list of bytes.
pub written_turn :
    (b : List ℕ) (at i : ℕ) (xs : List ℕ) → i < length xs → at + length xs ≤ length b →
    set (written b at (take i xs)) (at + i) (get_or xs i 0) ≡ written b at (take (i + 1) xs)
written_turn b at i xs h room =
    let n : length (take i xs) ≡ i = length-take-le i xs (omega arith) in
    let fit : at + length (take i xs) ≤ length b = omega (arith, n) in
    let e : written (written b at (take i xs)) (at + length (take i xs)) (get_or xs i 0 ∷ []) ≡ written b at (take i xs ++ (get_or xs i 0 ∷ []))
    = written_then b at (take i xs) (get_or xs i 0 ∷ []) fit in
    written_byte (written b at (take i xs)) (at + i) (get_or xs i 0) (rw (length_written b at (take i xs) fit) (omega arith)) ∙
    ap (λ (k : ℕ). written (written b at (take i xs)) (at + k) (get_or xs i 0 ∷ [])) (sym n) ∙ e ∙
    ap (written b at) (sym (rw (add-one i) (take-suc xs i 0 h)))
