-- Laws of the judge of a field: what it says in each case, what a sound field is, and that range is judged last.
-- Assumes nothing.
use Prim.Native.Nat.{ℕ, ◌+◌, ◌*◌, ◌≤◌, ◌<◌}
use native.Mathlib.Omega.{arith}
use borrow.Author.Tests.{lt-ltb, le-ltb, eq-eqb, ne_eqb, ltb-false, eqb-true, not-false}
use mathlib.Core.Path.{◌≡◌, refl, sym, ap, ◌∙◌}
use mathlib.Core.Bool.{Bool, true, false, not}
use mathlib.Core.List.{List}
use lib.Dec.{ltb, eqb}
use lib.ListN.{length, get_or, length-take, length-drop}
use lib.Seq.{drop-cons}
use Rattle.std.specs.Prelude.{Ok, Err}
use Rattle.stored.specs.declared.Fault.{Fault}
use Rattle.stored.specs.declared.Fault.TheVariants.{Short, OtherTag, OtherLength, OutOfRange}
use Rattle.stored.specs.Answers.{FieldAnswer}
use Rattle.stored.specs.Numbers.{spelled}
use Rattle.stored.specs.Field.{start_size, field_size, tag_of, stated_length, value_of}
use Rattle.stored.specs.Judge.{refuse_if, judge_field, any_value}

-- The stated length is spelled by the second and the third byte.
pub stated_of_bytes : (rest : List ℕ) → start_size ≤ length rest → stated_length rest ≡ get_or rest 1 0 * 256 + get_or rest 2 0
unfolding stated_length spelled
stated_of_bytes rest h = rw (drop-cons rest 1 0 (omega arith), drop-cons rest 2 0 (omega arith)) (omega arith)

------------------------------------------------------------------------
-- What the judge says, case by case

module _ (tag due : ℕ) (in_range : List ℕ → Bool) (rest : List ℕ) where
  pub judges_no_start : length rest < start_size → judge_field tag due in_range rest ≡ Err Short
  unfolding judge_field
  judges_no_start short = rw (lt-ltb (length rest) start_size short) refl

  module _ (started : start_size ≤ length rest) where
    pub judges_other_tag : (tag_of rest ≡ tag → ⊥) → judge_field tag due in_range rest ≡ Err OtherTag
    unfolding judge_field
    judges_other_tag other = rw (le-ltb (length rest) start_size started, ne_eqb (tag_of rest) tag other) refl

    module _ (tagged : tag_of rest ≡ tag) where
      pub judges_other_length : (stated_length rest ≡ due → ⊥) → judge_field tag due in_range rest ≡ Err OtherLength
      unfolding judge_field
      judges_other_length other =
          rw (
            le-ltb (length rest) start_size started,
            eq-eqb (tag_of rest) tag tagged,
            ne_eqb (stated_length rest) due other,
          )
          refl

      module _ (measured : stated_length rest ≡ due) where
        pub judges_short_value : length rest < field_size (stated_length rest) → judge_field tag due in_range rest ≡ Err Short
        unfolding judge_field
        judges_short_value short =
            rw (
              le-ltb (length rest) start_size started,
              eq-eqb (tag_of rest) tag tagged,
              eq-eqb (stated_length rest) due measured,
              lt-ltb (length rest) (field_size (stated_length rest)) short,
            )
            refl

        -- Where all else is well, the range of the value decides.
        pub judges_by_range : field_size (stated_length rest) ≤ length rest → judge_field tag due in_range rest ≡ refuse_if (not (in_range (value_of due rest))) OutOfRange (Ok due)
        unfolding judge_field
        judges_by_range whole =
            rw (
              le-ltb (length rest) start_size started,
              eq-eqb (tag_of rest) tag tagged,
              eq-eqb (stated_length rest) due measured,
              le-ltb (length rest) (field_size (stated_length rest)) whole,
            )
            refl

------------------------------------------------------------------------
-- What a sound field is

pub record SoundField (tag due : ℕ) (in_range : List ℕ → Bool) (rest : List ℕ) : Type 0 where
  pub tagged : tag_of rest ≡ tag
  pub measured : stated_length rest ≡ due
  pub whole : field_size due ≤ length rest
  pub ranged : in_range (value_of due rest) ≡ true

faulty_is_not_sound : {A : Type 0} (f : Fault) (n : ℕ) → ◌≡◌ {A = FieldAnswer} (Err f) (Ok n) → A
faulty_is_not_sound f n e = let z : ◌≡◌ {A = ℕ} 0 1 = cc in absurd (omega arith)

module _ (tag due : ℕ) (in_range : List ℕ → Bool) (rest : List ℕ) where
  pub sound_is : SoundField tag due in_range rest → judge_field tag due in_range rest ≡ Ok due
  sound_is s =
      judges_by_range tag due in_range rest (omega (arith, s.whole)) s.tagged s.measured
      (omega (arith, s.whole, s.measured)) ∙
      ap (λ (b : Bool). refuse_if (not b) OutOfRange (Ok due)) s.ranged

-- Range is judged last: the rest of the judgement is that of a field of which any value will do.
abbrev pub also_in_range : Bool → FieldAnswer → FieldAnswer
also_in_range k (Ok n) = refuse_if (not k) OutOfRange (Ok n)
also_in_range k (Err f) = Err f

also_after : (k b : Bool) (f : Fault) (later : FieldAnswer) → also_in_range k (refuse_if b f later) ≡ refuse_if b f (also_in_range k later)
also_after k true f later = refl
also_after k false f later = refl

pub range_is_judged_last : (tag due : ℕ) (in_range : List ℕ → Bool) (rest : List ℕ) → judge_field tag due in_range rest ≡ also_in_range (in_range (value_of due rest)) (judge_field tag due any_value rest)
unfolding judge_field any_value
range_is_judged_last tag due in_range rest = simp also_after

-- What passes a test was not refused by it.
passed : (b : Bool) (f : Fault) (later : FieldAnswer) (n : ℕ) → refuse_if b f later ≡ Ok n → (b ≡ false) × (later ≡ Ok n)
passed true f later n e = faulty_is_not_sound f n e
passed false f later n e = (refl, e)

module _ (tag due : ℕ) (in_range : List ℕ → Bool) (rest : List ℕ) (n : ℕ) where
  pub sound_means : judge_field tag due in_range rest ≡ Ok n → (n ≡ due) × SoundField tag due in_range rest
  unfolding judge_field
  sound_means e =
      let p1 = passed (ltb (length rest) start_size) Short _ n e in
      let p2 = passed (not (eqb (tag_of rest) tag)) OtherTag _ n p1.1 in
      let p3 = passed (not (eqb (stated_length rest) due)) OtherLength _ n p2.1 in
      let p4 = passed (ltb (length rest) (field_size (stated_length rest))) Short _ n p3.1 in
      let p5 = passed (not (in_range (value_of due rest))) OutOfRange _ n p4.1 in
      let last : Ok due ≡ Ok n = p5.1 in
      let measured = eqb-true (stated_length rest) due (not-false _ p3.0) in (
        cc,
        record {
          tagged = eqb-true (tag_of rest) tag (not-false _ p2.0);
          measured = measured;
          whole = omega (arith, ltb-false (length rest) (field_size (stated_length rest)) p4.0, measured);
          ranged = not-false _ p5.0;
        },
      )

-- So a judge that knows the rest of the judgement has only the range to look at.
module _ (tag due : ℕ) (in_range : List ℕ → Bool) (rest : List ℕ) where
  pub faulty_before_range : (a : FieldAnswer) (f : Fault) → a ≡ judge_field tag due any_value rest → a ≡ Err f → a ≡ judge_field tag due in_range rest
  faulty_before_range a f e g =
      g ∙
      sym (range_is_judged_last tag due in_range rest ∙ ap (also_in_range (in_range (value_of due rest))) (sym e ∙ g))

  pub sound_in_range : (a : FieldAnswer) (n : ℕ) → a ≡ judge_field tag due any_value rest → a ≡ Ok n → in_range (value_of due rest) ≡ true → Ok n ≡ judge_field tag due in_range rest
  sound_in_range a n e g r =
      sym
      (range_is_judged_last tag due in_range rest ∙
      ap (also_in_range (in_range (value_of due rest))) (sym e ∙ g) ∙
      ap (λ (k : Bool). refuse_if (not k) OutOfRange (Ok n)) r)

  pub sound_out_of_range : (a : FieldAnswer) (n : ℕ) → a ≡ judge_field tag due any_value rest → a ≡ Ok n → in_range (value_of due rest) ≡ false → Err OutOfRange ≡ judge_field tag due in_range rest
  sound_out_of_range a n e g r =
      sym
      (range_is_judged_last tag due in_range rest ∙
      ap (also_in_range (in_range (value_of due rest))) (sym e ∙ g) ∙
      ap (λ (k : Bool). refuse_if (not k) OutOfRange (Ok n)) r)

-- The value of a sound field has the length that is due.
pub length_value_of : (len : ℕ) (rest : List ℕ) → field_size len ≤ length rest → length (value_of len rest) ≡ len
unfolding value_of
length_value_of len rest h = simp (length-take, length-drop) (omega arith)

-- What a walker over a sound field may rely on: n is the length due, the field is whole, and the part handed on is its
-- value.
module _ (tag due : ℕ) (in_range : List ℕ → Bool) (rest : List ℕ) (a : FieldAnswer) (n : ℕ) (judged : a ≡ judge_field tag due in_range rest) (sound : a ≡ Ok n) where
  pub sound_length : n ≡ due
  sound_length = (sound_means tag due in_range rest n (sym judged ∙ sound)).0

  pub sound_whole : field_size n ≤ length rest
  sound_whole =
      let m = sound_means tag due in_range rest n (sym judged ∙ sound) in
      omega (arith, m.0, m.1.whole)

  pub sound_value : (v : List ℕ) → v ≡ value_of n rest → v ≡ value_of due rest
  sound_value v e = e ∙ ap (λ (k : ℕ). value_of k rest) sound_length

  pub sound_value_length : (v : List ℕ) → v ≡ value_of n rest → length v ≡ due
  sound_value_length v e = ap length e ∙ length_value_of n rest sound_whole ∙ sound_length
