-- Laws of what a pen puts, one thing behind another. Assumes nothing.
use Prim.Native.Nat.{ℕ, ◌+◌, ◌≤◌}
use native.Mathlib.Nat.{add_assoc}
use native.Mathlib.Omega.{arith}
use mathlib.Core.Path.{◌≡◌, refl, sym, ap, ap₂, ◌∙◌}
use mathlib.Core.List.{List, [], ◌++◌}
use lib.ListN.{length, length-append}
use Rattle.lines.specs.Written.{written}
use Rattle.lines.specs.Puts.{Puts}
use Rattle.lines.specs.declared.Pen.{Pen}
use Rattle.lines.proofs.WrittenLaws.{written_then, written_nothing, length_written}

-- The pen has room for so many bytes more.
abbrev pub HasRoom : Pen → ℕ → Type 0
HasRoom p n = p.at + n ≤ length p.buf.now

-- What was put behind what was put is both.
pub puts_then :
    {p q r : Pen} {xs ys : List ℕ} → HasRoom p (length xs) → Puts p xs q → Puts q ys r → Puts p (xs ++ ys) r
puts_then {p} {q} {r} {xs} {ys} room w v =
    record {
      place = v.place ∙ ap (λ (k : ℕ). k + length ys) w.place ∙ add_assoc p.at (length xs) (length ys) ∙ ap (λ (k : ℕ). p.at + k) (sym (length-append xs ys));
      holds =
          v.holds ∙ ap₂ (λ (m : List ℕ) (k : ℕ). written m k ys) w.holds w.place ∙ written_then p.buf.now p.at xs ys room;
      same_buffer = v.same_buffer ∙ w.same_buffer;
    }

-- The buffer keeps its length.
pub puts_length : {p q : Pen} {xs : List ℕ} → HasRoom p (length xs) → Puts p xs q → length q.buf.now ≡ length p.buf.now
puts_length {p} {q} {xs} room w = ap length w.holds ∙ length_written p.buf.now p.at xs room

-- What room is left behind it.
pub puts_room : {p q : Pen} {xs : List ℕ} (n : ℕ) → HasRoom p (length xs + n) → Puts p xs q → HasRoom q n
puts_room {p} {q} {xs} n room w = omega (arith, w.place, puts_length {p = p} {q = q} {xs = xs} (omega arith) w)

-- Nothing was put yet.
pub puts_nothing : (p : Pen) → Puts p [] p
puts_nothing p = record { place = omega arith; holds = sym (written_nothing p.buf.now p.at); same_buffer = refl }

-- Equal bytes were put.
pub puts_same : {p q : Pen} {xs ys : List ℕ} → xs ≡ ys → Puts p xs q → Puts p ys q
puts_same e w = rw e at w
