-- Laws of writing one thing behind another, beyond those of a pen. Assumes nothing.
use Prim.Native.Nat.{ℕ, ◌+◌, ◌≤◌}
use native.Mathlib.Nat.{add_assoc}
use native.Mathlib.Omega.{arith}
use mathlib.Core.Path.{◌≡◌, sym, ap, ap₂, ◌∙◌}
use mathlib.Core.List.{List, [], ◌++◌}
use lib.ListN.{length, length-append}
use Rattle.lines.specs.Puts.{Puts}
use Rattle.lines.specs.Written.{written}
use Rattle.lines.specs.declared.Pen.{Pen}
use Rattle.lines.proofs.PutsLaws.{HasRoom, puts_then, puts_length, puts_room}
use Rattle.lines.proofs.WrittenLaws.{written_then, written_nothing, length_written}
use Rattle.wording.specs.Wrote.{Wrote}

-- What a pen put was written into its buffer, from its place on.
pub wrote : {p q : Pen} {xs : List ℕ} → Puts p xs q → Wrote p.buf.now p.at xs q.buf.now q.at
wrote w = record { place = w.place; holds = w.holds }

-- Without a pen, of any lists: what was written behind what was written is both.
pub wrote_then :
    {b xs mid ys out : List ℕ} {at r r' : ℕ} → at + length xs ≤ length b → Wrote b at xs mid r → Wrote mid r ys out r' →
    Wrote b at (xs ++ ys) out r'
wrote_then {b} {xs} {mid} {ys} {out} {at} {r} {r'} room w v =
    record {
      place = v.place ∙ ap (λ (k : ℕ). k + length ys) w.place ∙ add_assoc at (length xs) (length ys) ∙ ap (λ (k : ℕ). at + k) (sym (length-append xs ys));
      holds =
          v.holds ∙ ap₂ (λ (m : List ℕ) (k : ℕ). written m k ys) w.holds w.place ∙ written_then b at xs ys room;
    }

-- The buffer keeps its length.
pub wrote_length : {b xs out : List ℕ} {at r : ℕ} → at + length xs ≤ length b → Wrote b at xs out r → length out ≡ length b
wrote_length {b} {xs} {out} {at} {r} room w = ap length w.holds ∙ length_written b at xs room

-- Nothing was written yet.
pub wrote_nothing : (b : List ℕ) (at : ℕ) → Wrote b at [] b at
wrote_nothing b at = record { place = omega arith; holds = sym (written_nothing b at) }

-- Equal bytes were written.
pub wrote_same : {b xs ys out : List ℕ} {at r : ℕ} → xs ≡ ys → Wrote b at xs out r → Wrote b at ys out r
wrote_same e w = rw e at w

------------------------------------------------------------------------
-- A run of writes, with a bound on what it has written so far

pub record Run (p : Pen) (k : ℕ) (xs : List ℕ) (q : Pen) : Type 0 where
  pub writes : Puts p xs q
  pub small : length xs ≤ k

-- The first write.
pub run_from : {p q : Pen} {xs : List ℕ} {k : ℕ} → length xs ≤ k → Puts p xs q → Run p k xs q
run_from l w = record { writes = w; small = l }

-- One write more.
pub run_on :
    {p q r : Pen} {xs ys : List ℕ} {k j : ℕ} → HasRoom p k → Run p k xs q → length ys ≤ j → Puts q ys r → Run p (k + j) (xs ++ ys) r
run_on {p} {q} {r} {xs} {ys} {k} {j} room w l v =
    record {
      writes = puts_then (omega (arith, w.small)) w.writes v;
      small = simp length-append (omega (arith, w.small));
    }

-- What a run leaves free.
pub run_room : {p q : Pen} {xs : List ℕ} {k : ℕ} (j : ℕ) → HasRoom p (k + j) → Run p k xs q → HasRoom q j
run_room {p} {q} {xs} {k} j room w = puts_room j (omega (arith, w.small)) w.writes

-- A run leaves the buffer as long as it was.
pub run_length : {p q : Pen} {xs : List ℕ} {k : ℕ} → HasRoom p k → Run p k xs q → length q.buf.now ≡ length p.buf.now
run_length {p} {q} {xs} {k} room w = puts_length (omega (arith, w.small)) w.writes
