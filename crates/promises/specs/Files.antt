-- Demands 1 and 2, over files: exact refusals, no figures in a refusal, lent buffers, and both round trips. A file is a list
-- of bytes; a write lends a buffer, a list of bytes too. Assumes nothing.
use Rattle.std.specs.Prelude.{ℕ, ◌<◌, ◌≡◌, refl, Bool, true, false, cond, ◌↔◌, List, ltb, length, take, Ok, Err}
use Rattle.std.proofs.Common.{arith, sym, ap, ◌∙◌, ltb-true, lt-ltb}
use Rattle.std.proofs.Math.Option.{Option, none, some}
use Rattle.table.specs.declared.Table.{Table}
use Rattle.table.specs.Zeros.{zero_table}
use Rattle.table.specs.Meaning.{meaning, MeanTheSame}
use Rattle.rules.specs.declared.Place.{Place}
use Rattle.rules.specs.declared.Rule.{Rule}
use Rattle.rules.specs.Judged.{Judged, admitted, refused}
use Rattle.stored.specs.declared.Fault.{Fault}
use Rattle.stored.specs.declared.Misread.{Misread}
use Rattle.stored.specs.Answers.{WriteAnswer, whole, misread, refused as refused_file, stands, uncounted, no_room}
use Rattle.stored.specs.Numbers.{AreBytes}
use Rattle.stored.specs.Held.{Held}
use Rattle.stored.specs.File.{file_of}
use Rattle.stored.specs.Read.{Refusal, refusal_in, whole_unless, read_of}
use Rattle.rules.specs.Rules.{counts_judged}
use Rattle.stored.specs.Write.{answer_for, write_of, left_by, buffer_after}
use Rattle.stored.proofs.RoundTrips.{refused_read_gives_zeros, read_then_written_is_the_same_file, written_then_read_means_the_same, same_meaning_same_file, same_reading_same_file}
use Rattle.stored.proofs.LongInput.{first_bytes_suffice}

------------------------------------------------------------------------
-- Demand 1

-- A file is refused with a fault at an offset exactly when that is the first refusal in the order of the fields,
pub file_refused_exactly : (file : List ℕ) (f : Fault) (at : ℕ) → ((read_of file).answer ≡ refused_file f at) ↔ (refusal_in file ≡ some (f, at))
unfolding read_of
file_refused_exactly file f at = (λ e. go (refusal_in file) e, λ e. ap whole_unless e)
  where
    go : (o : Option Refusal) → whole_unless o ≡ refused_file f at → o ≡ some (f, at)
    go none q = let z : ◌≡◌ {A = ℕ} 0 1 = cc in absurd (omega arith)
    go (some r) q =
        let same : misread r.0 r.1 ≡ misread f at = cc in
        let x : r.0 ≡ f = ap (λ (m : Misread). m.fault) same in
        let y : r.1 ≡ at = ap (λ (m : Misread). m.offset) same in λ i. some (x i, y i)

-- and is read whole exactly when there is none.
pub file_read_exactly : (file : List ℕ) → ((read_of file).answer ≡ whole) ↔ (refusal_in file ≡ none)
unfolding read_of
file_read_exactly file = (λ e. go (refusal_in file) e, λ e. ap whole_unless e)
  where
    go : (o : Option Refusal) → whole_unless o ≡ whole → o ≡ none
    go none q = refl
    go (some r) q = let z : ◌≡◌ {A = ℕ} 0 1 = cc in absurd (omega arith)

-- A refused read gives a table of zeros.
pub refused_file_gives_zeros : (file : List ℕ) (f : Fault) (at : ℕ) → (read_of file).answer ≡ refused_file f at → (read_of file).table ≡ zero_table
refused_file_gives_zeros file f at e = refused_read_gives_zeros file f at e

-- The first 4,096 bytes of an input are enough: answer, place and table are the same.
pub nothing_longer_is_a_table : (input : List ℕ) → read_of (take 4096 input) ≡ read_of input
nothing_longer_is_a_table input = first_bytes_suffice input

-- A write refuses with 1 at a place exactly when rule 1 refuses the counts at that place.
pub counts_refused_exactly :
    (t : Table) (room : ℕ) (p : Place) → (write_of (meaning t) room ≡ uncounted p) ↔ ((k : Rule) × (counts_judged (meaning t) ≡ refused k p))
unfolding write_of
counts_refused_exactly t room p =
    (λ e. to (counts_judged (meaning t)) refl e, λ r. ap (λ (j : Judged). answer_for j (file_of (meaning t)) room) r.1)
  where
    counted : (b : Bool) → cond b no_room (stands (length (file_of (meaning t)))) ≡ uncounted p → ⊥
    counted true q = let z : ◌≡◌ {A = ℕ} 0 1 = cc in omega arith
    counted false q = let z : ◌≡◌ {A = ℕ} 0 1 = cc in omega arith

    to : (j : Judged) → counts_judged (meaning t) ≡ j → answer_for j (file_of (meaning t)) room ≡ uncounted p → (k : Rule) × (counts_judged (meaning t) ≡ refused k p)
    to (Err r) e w = let same : r.place ≡ p = cc in (r.rule, e ∙ ap (refused r.rule) same)
    to (Ok _) e w = absurd (counted (ltb room (length (file_of (meaning t)))) w)

-- Then with 21 exactly when the buffer is shorter than the file.
pub no_room_exactly :
    (t : Table) (room : ℕ) → counts_judged (meaning t) ≡ admitted → (write_of (meaning t) room ≡ no_room) ↔ (room < length (file_of (meaning t)))
unfolding write_of
no_room_exactly t room a = (
  λ e. ltb-true room (length (file_of (meaning t))) (go (ltb room (length (file_of (meaning t)))) (ap (λ (j : Judged). answer_for j (file_of (meaning t)) room) (sym a) ∙ e)),
  λ l. ap (λ (j : Judged). answer_for j (file_of (meaning t)) room) a ∙ ap (λ (b : Bool). cond b no_room (stands (length (file_of (meaning t))))) (lt-ltb room (length (file_of (meaning t))) l),
)
  where
    go : (b : Bool) → cond b no_room (stands (length (file_of (meaning t)))) ≡ no_room → b ≡ true
    go true q = refl
    go false q = let z : ◌≡◌ {A = ℕ} 0 1 = cc in absurd (omega arith)

-- Where a write refuses, the lent buffer keeps its former contents.
pub refused_write_keeps_the_buffer :
    (t : Table) (buf : List ℕ) → ((n : ℕ) → write_of (meaning t) (length buf) ≡ stands n → ⊥) → buffer_after (meaning t) buf ≡ buf
unfolding buffer_after
refused_write_keeps_the_buffer t buf never = go (write_of (meaning t) (length buf)) never
  where
    go : (w : WriteAnswer) → ((n : ℕ) → w ≡ stands n → ⊥) → left_by w (file_of (meaning t)) buf ≡ buf
    go (Ok n) h = absurd (h n refl)
    go (Err why) h = refl

------------------------------------------------------------------------
-- Demand 2

-- A file read and written again is the same file,
pub read_and_written_again_is_the_same_file :
    (file buf : List ℕ) (n : ℕ) → AreBytes file → (read_of file).answer ≡ whole → write_of (meaning (read_of file).table) (length buf) ≡ stands n →
    (n ≡ length file) × (take n (buffer_after (meaning (read_of file).table) buf) ≡ file)
read_and_written_again_is_the_same_file file buf n bytes e w = read_then_written_is_the_same_file file buf n bytes e w

-- and a table written and read again means the same, wherever neither call refuses. (`Held`: every time is a number of 32
-- bits, as in every table that a program holds.)
pub written_and_read_again_means_the_same :
    (t : Table) (buf : List ℕ) (n : ℕ) → Held (meaning t) → write_of (meaning t) (length buf) ≡ stands n →
    ((read_of (take n (buffer_after (meaning t) buf))).answer ≡ whole) × MeanTheSame (read_of (take n (buffer_after (meaning t) buf))).table t
written_and_read_again_means_the_same t buf n held w = written_then_read_means_the_same t buf n held w

-- Two tables that mean the same have the same file, and no two files read as tables that mean the same.
pub same_meaning_has_the_same_file : (t u : Table) → MeanTheSame t u → file_of (meaning t) ≡ file_of (meaning u)
same_meaning_has_the_same_file t u e = same_meaning_same_file t u e

pub same_meaning_was_the_same_file :
    (one other : List ℕ) → AreBytes one → AreBytes other → (read_of one).answer ≡ whole → (read_of other).answer ≡ whole →
    MeanTheSame (read_of one).table (read_of other).table → one ≡ other
same_meaning_was_the_same_file one other b c e f g = same_reading_same_file one other b c e f g
