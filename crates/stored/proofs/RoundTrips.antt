-- The theorems on files and tables, over the definitions of what a read gives and what a write leaves. Assumes nothing.
use Prim.Native.Nat.{ℕ, zero, suc, ◌+◌, ◌*◌, ◌≤◌, ◌<◌}
use native.Mathlib.Nat.{le_refl}
use native.Mathlib.Numerals.{add-one}
use native.Mathlib.Omega.{arith}
use mathlib.Core.Path.{◌≡◌, refl, sym, ap, ◌∙◌}
use mathlib.Core.Bool.{Bool, true, false, cond}
use mathlib.Core.Option.{Option, none, some}
use mathlib.Core.List.{List, [], flat_map}
use lib.Dec.{ltb}
use Rattle.std.specs.Prelude.{Ok, Err}
use lib.ListN.{length, get_or, take, drop, length-append}
use lib.Seq.{take_at}
use Rattle.lists.specs.Range.{up_to}
use Rattle.table.specs.Limits.{most}
use Rattle.table.specs.Zeros.{zero_table}
use Rattle.table.specs.declared.Table.{Table}
use Rattle.table.specs.Meaning.{System, past_subsystems, subsystem_at, meaning, MeanTheSame}
use Rattle.rules.specs.Judged.{Judged, admitted}
use Rattle.rules.specs.Rules.{counts_judged}
use Rattle.rules.proofs.OrderLaws.{counted_table}
use Rattle.stored.specs.declared.Fault.{Fault}
use Rattle.stored.specs.declared.Fault.TheVariants.{Short}
use Rattle.stored.specs.Answers.{whole, refused as refused_file, stands, no_room}
use Rattle.stored.specs.Numbers.{AreBytes}
use Rattle.stored.specs.Field.{field_size, header_length}
use Rattle.stored.specs.File.{subsystem_bytes, file_of, largest_file}
use Rattle.stored.specs.Judge.{judge_field}
use Rattle.stored.specs.Read.{Refusal, refusal_in, whole_unless, zeros_if, table_in, read_of}
use Rattle.stored.specs.Write.{written, answer_for, write_of, buffer_after}
use Rattle.stored.specs.Held.{Held}
use Rattle.stored.proofs.FileLaws.{flat_map_none, flat_map_one_more, length_file_parts, length_subsystem_bytes}
use Rattle.stored.proofs.WrittenRead.{written_is_unrefused, written_means_the_same}
use Rattle.stored.proofs.ReadWritten.{read_is_its_file}
use Rattle.stored.proofs.LongInput.{read_is_no_longer}

------------------------------------------------------------------------
-- What an answer that refuses nothing says

pub whole_is_unrefused : (o : Option Refusal) → whole_unless o ≡ whole → o ≡ none
whole_is_unrefused none e = refl
whole_is_unrefused (some r) e = let z : ◌≡◌ {A = ℕ} 0 1 = cc in absurd (omega arith)

-- A read that is whole refused nothing, and gives the table in the file.
pub whole_reads_the_table : (file : List ℕ) → (read_of file).answer ≡ whole → (refusal_in file ≡ none) × ((read_of file).table ≡ table_in file)
unfolding read_of
whole_reads_the_table file e =
    let clean = whole_is_unrefused (refusal_in file) e in (clean, ap (λ (o : Option Refusal). zeros_if o (table_in file)) clean)

unrefused_is_whole : (file : List ℕ) → refusal_in file ≡ none → ((read_of file).answer ≡ whole) × ((read_of file).table ≡ table_in file)
unfolding read_of
unrefused_is_whole file clean =
    (ap whole_unless clean, ap (λ (o : Option Refusal). zeros_if o (table_in file)) clean)

by_room : (b : Bool) (n k : ℕ) → cond b no_room (stands k) ≡ stands n → (b ≡ false) × (k ≡ n)
by_room true n k e = let z : ◌≡◌ {A = ℕ} 0 1 = cc in absurd (omega arith)
by_room false n k e = (refl, cc)

by_counts : (j : Judged) (file : List ℕ) (room n : ℕ) → answer_for j file room ≡ stands n → (j ≡ admitted) × (ltb room (length file) ≡ false) × (length file ≡ n)
by_counts (Err r) file room n e = let z : ◌≡◌ {A = ℕ} 0 1 = cc in absurd (omega arith)
by_counts (Ok _) file room n e =
    let r = by_room (ltb room (length file)) n (length file) e in (refl, r.0, r.1)

-- A write that refuses nothing has counts in range, and the file is what it put.
pub written_is_the_file : (sys : System) (buf : List ℕ) (n : ℕ) → write_of sys (length buf) ≡ stands n → (counts_judged sys ≡ admitted) × (length (file_of sys) ≡ n) × (take n (buffer_after sys buf) ≡ file_of sys)
unfolding write_of buffer_after written
written_is_the_file sys buf n e =
    let r = by_counts (counts_judged sys) (file_of sys) (length buf) n e in
    (r.0, r.2, rw e (take_at (file_of sys) (drop (length (file_of sys)) buf) n r.2))

------------------------------------------------------------------------
-- Reading, then writing

-- A file that is read is the file of the table that is read.
pub read_file_is_the_file : (file : List ℕ) → AreBytes file → (read_of file).answer ≡ whole → file_of (meaning (read_of file).table) ≡ file
read_file_is_the_file file bytes e =
    let r = whole_reads_the_table file e in
    ap (λ (t : Table). file_of (meaning t)) r.1 ∙ read_is_its_file file bytes r.0

-- A file that is read is written as the same bytes, wherever neither call refuses.
pub read_then_written_is_the_same_file : (file buf : List ℕ) (n : ℕ) → AreBytes file → (read_of file).answer ≡ whole → write_of (meaning (read_of file).table) (length buf) ≡ stands n → (n ≡ length file) × (take n (buffer_after (meaning (read_of file).table) buf) ≡ file)
read_then_written_is_the_same_file file buf n bytes e w =
    let same = read_file_is_the_file file bytes e in
    let r = written_is_the_file (meaning (read_of file).table) buf n w in
    (sym r.1 ∙ ap length same, r.2 ∙ same)

------------------------------------------------------------------------
-- Writing, then reading

-- The file of a table with counts in range is read whole, as a table that means the same.
pub file_reads_as_the_same_meaning : (t : Table) → Held (meaning t) → counts_judged (meaning t) ≡ admitted → ((read_of (file_of (meaning t))).answer ≡ whole) × MeanTheSame (read_of (file_of (meaning t))).table t
unfolding MeanTheSame
file_reads_as_the_same_meaning t held counts =
    let c = counted_table t counts in
    let r = unrefused_is_whole (file_of (meaning t)) (written_is_unrefused t c.subsystems_least c) in
    (r.0, ap meaning r.1 ∙ written_means_the_same t c.subsystems_least c held)

-- A table that is written reads back as one that means the same; the read refuses nothing that was written.
pub written_then_read_means_the_same : (t : Table) (buf : List ℕ) (n : ℕ) → Held (meaning t) → write_of (meaning t) (length buf) ≡ stands n → ((read_of (take n (buffer_after (meaning t) buf))).answer ≡ whole) × MeanTheSame (read_of (take n (buffer_after (meaning t) buf))).table t
written_then_read_means_the_same t buf n held w =
    let r = written_is_the_file (meaning t) buf n w in
    rw r.2 (file_reads_as_the_same_meaning t held r.0)

------------------------------------------------------------------------
-- One file, one meaning

-- Two tables that mean the same have the same file; so writing them answers the same and leaves the same.
pub same_meaning_same_file : (t u : Table) → MeanTheSame t u → file_of (meaning t) ≡ file_of (meaning u)
unfolding MeanTheSame
same_meaning_same_file t u e = ap file_of e

pub same_meaning_same_write : (t u : Table) (buf : List ℕ) → MeanTheSame t u → (write_of (meaning t) (length buf) ≡ write_of (meaning u) (length buf)) × (buffer_after (meaning t) buf ≡ buffer_after (meaning u) buf)
unfolding MeanTheSame
same_meaning_same_write t u buf e =
    (ap (λ (sys : System). write_of sys (length buf)) e, ap (λ (sys : System). buffer_after sys buf) e)

-- A file has one reading: two tables that are written as the same file mean the same.
pub same_file_same_meaning : (t u : Table) → Held (meaning t) → Held (meaning u) → counts_judged (meaning t) ≡ admitted → counts_judged (meaning u) ≡ admitted → file_of (meaning t) ≡ file_of (meaning u) → MeanTheSame t u
unfolding MeanTheSame
same_file_same_meaning t u held-t held-u counts-t counts-u e =
    sym (file_reads_as_the_same_meaning t held-t counts-t).1 ∙
    ap (λ (file : List ℕ). meaning (read_of file).table) e ∙
    (file_reads_as_the_same_meaning u held-u counts-u).1

-- No two files read as tables that mean the same.
pub same_reading_same_file : (one other : List ℕ) → AreBytes one → AreBytes other → (read_of one).answer ≡ whole → (read_of other).answer ≡ whole → MeanTheSame (read_of one).table (read_of other).table → one ≡ other
same_reading_same_file one other bytes_one bytes-other whole-one whole-other e =
    sym (read_file_is_the_file one bytes_one whole-one) ∙
    same_meaning_same_file (read_of one).table (read_of other).table e ∙
    read_file_is_the_file other bytes-other whole-other

------------------------------------------------------------------------
-- Refused reads

-- A refused read gives a table of zeros.
pub refused_read_gives_zeros : (file : List ℕ) (f : Fault) (at : ℕ) → (read_of file).answer ≡ refused_file f at → (read_of file).table ≡ zero_table
unfolding read_of
refused_read_gives_zeros file f at e = go (refusal_in file) e
  where
    go : (o : Option Refusal) → whole_unless o ≡ refused_file f at → zeros_if o (table_in file) ≡ zero_table
    go none q = let z : ◌≡◌ {A = ℕ} 0 1 = cc in absurd (omega arith)
    go (some r) q = refl

-- The empty file: 11 at 0.
pub empty_file_is_short_at_0 : (read_of []).answer ≡ refused_file Short 0
unfolding read_of refusal_in judge_field
empty_file_is_short_at_0 = refl

------------------------------------------------------------------------
-- The largest file

-- No file that is written is longer than 3,110 bytes.
pub no_file_is_longer : (t : Table) → counts_judged (meaning t) ≡ admitted → length (file_of (meaning t)) ≤ largest_file
no_file_is_longer t counts =
    let c = counted_table t counts in read_is_no_longer (file_of (meaning t)) (written_is_unrefused t c.subsystems_least c)

-- A table with every count at its most has a file of 3,110 bytes.
module _ (t : Table) (n : t.count ≡ most) (m : t.resources ≡ most) (tasks : (s : ℕ) → s < most → (get_or t.subsystems s past_subsystems).count ≡ most) where
  length_of_first : (s : ℕ) → s ≤ most → length (flat_map subsystem_bytes (up_to (subsystem_at t) s)) ≡ s * 388
  unfolding subsystem_at
  length_of_first zero h = rw (flat_map_none subsystem_bytes (subsystem_at t)) refl
  length_of_first (suc s) h =
      rw (← add-one s, flat_map_one_more subsystem_bytes (subsystem_at t) s, length-append, length_of_first s (omega arith), length_subsystem_bytes t.resources (get_or t.subsystems s past_subsystems), tasks s (omega arith), m)
      (omega arith)

  pub fullest_file_has_3110 : length (file_of (meaning t)) ≡ largest_file
  fullest_file_has_3110 =
      length_file_parts t ∙
      ap (λ (k : ℕ). field_size header_length + length (flat_map subsystem_bytes (up_to (subsystem_at t) k))) n ∙
      ap (λ (k : ℕ). field_size header_length + k) (length_of_first most (le_refl most))
