-- Counts in range: what a sound header and a sound field of a subsystem say of theirs. Assumes nothing.
use Prim.Native.Nat.{ℕ, ◌≤◌}
use native.Mathlib.Omega.{arith}
use borrow.Author.Tests.{leb-true, not-true}
use mathlib.Core.Path.{◌≡◌, refl}
use mathlib.Core.Bool.{Bool, true, false, not, ◌&&◌}
use mathlib.Core.List.{List}
use lib.Dec.{leb, eqb}
use lib.ListN.{drop, get_or}
use Rattle.table.specs.Limits.{most}
use Rattle.rules.specs.Rules.{count_out}
use Rattle.rules.proofs.OrderLaws.{in_range}
use Rattle.stored.specs.Field.{value_of, header_tag, header_length, subsystem_tag, subsystem_length, version}
use Rattle.stored.specs.Judge.{header_in_range, subsystem_in_range}
use Rattle.stored.specs.Decode.{decoded_header, decoded_subsystem}
use Rattle.stored.specs.Read.{header_in, head_at}
use Rattle.stored.proofs.Judging.{SoundField}

pub and_left : (a b : Bool) → (a && b) ≡ true → a ≡ true
and_left true b e = refl
and_left false b e = e

pub and_right : (a b : Bool) → (a && b) ≡ true → b ≡ true
and_right true b e = e
and_right false b e = let z : ◌≡◌ {A = ℕ} 0 1 = cc in absurd (omega arith)

pub count_in_range : (n : ℕ) → not (count_out n) ≡ true → (1 ≤ n) × (n ≤ most)
count_in_range n e = in_range n (not-true (count_out n) e)

-- N and M of a header that is sound, and n of a subsystem's field that is.
pub header_counts : (file : List ℕ) → SoundField header_tag header_length header_in_range file → (1 ≤ (header_in file).count) × ((header_in file).count ≤ most) × ((header_in file).resources ≤ most)
unfolding header_in decoded_header header_in_range
header_counts file sound =
    let v = value_of header_length file in
    let both = and_right (eqb (get_or v 0 0) version) (not (count_out (get_or v 1 0)) && leb (get_or v 2 0) most) sound.ranged in
    let n = count_in_range (get_or v 1 0) (and_left (not (count_out (get_or v 1 0))) (leb (get_or v 2 0) most) both) in
    (n.0, n.1, leb-true (get_or v 2 0) most (and_right (not (count_out (get_or v 1 0))) (leb (get_or v 2 0) most) both))

pub head_count_lem : (file : List ℕ) (at : ℕ) → SoundField subsystem_tag subsystem_length subsystem_in_range (drop at file) → (1 ≤ (head_at file at).count) × ((head_at file at).count ≤ most)
unfolding head_at decoded_subsystem subsystem_in_range
head_count_lem file at sound = count_in_range (head_at file at).count sound.ranged
