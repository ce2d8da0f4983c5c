-- The first bytes of an input decide: a judge looks no further than the field that is due, and so no reader looks
-- further than the longest file. Assumes nothing.
use Prim.Native.Nat.{ℕ, zero, suc, ◌-◌, ◌≤◌, ◌<◌}
use native.Mathlib.Nat.{suc-sub-suc, sub-zero}
use native.Mathlib.Omega.{arith}
use borrow.Author.Tests.{eqb-true, eqb-false}
use mathlib.Core.Path.{◌≡◌, refl, sym, ap, ◌∙◌}
use mathlib.Core.Logic.{⊎_elim}
use mathlib.Core.Bool.{Bool, true, false, not}
use mathlib.Core.List.{List, [], ◌∷◌}
use lib.Dec.{eqb}
use lib.ListN.{length, take, drop, length-take}
use lib.Seq.{take_all, take-take, take-nil, get_or-take}
use Rattle.std.specs.Prelude.{Ok}
use Rattle.lists.proofs.Over.{le_or_lt}
use Rattle.stored.specs.declared.Fault.TheVariants.{OutOfRange}
use Rattle.stored.specs.Numbers.{spelled}
use Rattle.stored.specs.Field.{start_size, field_size, tag_of, stated_length, value_of}
use Rattle.stored.specs.Judge.{refuse_if, judge_field}
use Rattle.stored.proofs.Judging.{judges_other_tag, judges_other_length, judges_by_range}

------------------------------------------------------------------------
-- The first k bytes of the rest of a file

pub drop_of_take : (xs : List ℕ) (k a : ℕ) → a ≤ k → drop a (take k xs) ≡ take (k - a) (drop a xs)
drop_of_take xs k zero h = rw sub-zero refl
drop_of_take [] (suc k) (suc a) h = sym (take-nil (suc k - suc a))
drop_of_take (x ∷ xs) (suc k) (suc a) h = rw suc-sub-suc (drop_of_take xs k a (omega arith))
drop_of_take xs zero (suc a) h = absurd (omega arith)

module _ (rest : List ℕ) (k : ℕ) where
  tag_of_first : 1 ≤ k → tag_of (take k rest) ≡ tag_of rest
  unfolding tag_of
  tag_of_first h = get_or-take k rest 0 0 h

  stated_of_first : start_size ≤ k → stated_length (take k rest) ≡ stated_length rest
  unfolding stated_length
  stated_of_first h =
      ap spelled
      (ap (take 2) (drop_of_take rest k 1 (omega arith)) ∙ take-take 2 (k - 1) (drop 1 rest) (omega arith))

  pub value_of_first : (len : ℕ) → field_size len ≤ k → value_of len (take k rest) ≡ value_of len rest
  unfolding value_of
  value_of_first len h =
      ap (take len) (drop_of_take rest k start_size (omega arith)) ∙
      take-take len (k - start_size) (drop start_size rest) (omega arith)

-- Where the field that is due has its bytes, the judge decides by them alone.
judged_by_its_bytes : (tag due : ℕ) (in_range : List ℕ → Bool) (one other : List ℕ) → field_size due ≤ length one → field_size due ≤ length other → tag_of one ≡ tag_of other → stated_length one ≡ stated_length other → value_of due one ≡ value_of due other → judge_field tag due in_range one ≡ judge_field tag due in_range other
judged_by_its_bytes tag due in_range one other a b t s v = by_tag (eqb (tag_of other) tag) refl
  where
    by_length : tag_of other ≡ tag → (d : Bool) → eqb (stated_length other) due ≡ d → judge_field tag due in_range one ≡ judge_field tag due in_range other
    by_length tagged true e =
        let stated = eqb-true (stated_length other) due e in
        judges_by_range tag due in_range one (omega arith) (t ∙ tagged) (s ∙ stated) (omega (arith, s, stated)) ∙
        ap (λ (l : List ℕ). refuse_if (not (in_range l)) OutOfRange (Ok due)) v ∙
        sym (judges_by_range tag due in_range other (omega arith) tagged stated (omega (arith, stated)))
    by_length tagged false e =
        let ne = eqb-false (stated_length other) due e in
        judges_other_length tag due in_range one (omega arith) (t ∙ tagged) (λ q. ne (sym s ∙ q)) ∙
        sym (judges_other_length tag due in_range other (omega arith) tagged ne)

    by_tag : (d : Bool) → eqb (tag_of other) tag ≡ d → judge_field tag due in_range one ≡ judge_field tag due in_range other
    by_tag true e = by_length (eqb-true (tag_of other) tag e) (eqb (stated_length other) due) refl
    by_tag false e =
        let ne = eqb-false (tag_of other) tag e in
        judges_other_tag tag due in_range one (omega arith) (λ q. ne (sym t ∙ q)) ∙
        sym (judges_other_tag tag due in_range other (omega arith) ne)

-- A judge looks at no more bytes than the field that is due has.
pub judged_by_first_bytes : (tag due k : ℕ) (in_range : List ℕ → Bool) (rest : List ℕ) → field_size due ≤ k → judge_field tag due in_range (take k rest) ≡ judge_field tag due in_range rest
judged_by_first_bytes tag due k in_range rest h =
    ⊎_elim
    (λ (l : field_size due ≤ length rest).
    judged_by_its_bytes tag due in_range (take k rest) rest (rw length-take (omega arith)) l
    (tag_of_first rest k (omega arith))
    (stated_of_first rest k (omega arith))
    (value_of_first rest k due h))
    (λ (l : length rest < field_size due). ap (judge_field tag due in_range) (take_all k rest (omega arith)))
    (le_or_lt (field_size due) (length rest))
