-- Laws of the list of all, and of that list filled up to a length. Assumes nothing.
use Prim.Native.Nat.{ℕ, zero, suc, ◌+◌, ◌-◌, ◌*◌, ◌≤◌, ◌<◌}
use native.Mathlib.Nat.{eq-or-lt_of_le, sub-zero, suc-mul}
use native.Mathlib.Numerals.{add-one}
use native.Mathlib.Omega.{arith}
use mathlib.Core.Path.{◌≡◌, refl, sym, ap, ap₂, ◌∙◌}
use mathlib.Core.Logic.{⊎_elim}
use mathlib.Core.List.{List, [], ◌∷◌, ◌++◌, append_assoc}
use lib.ListN.{length, get_or, set, replicate, length-append, length-replicate, get_or-append}
use lib.Seq.{get_or_at, set_at}
use Rattle.lists.specs.Range.{up_to, join_to, padded}

module _ {A : Type 0} where
  pub length_up_to : (f : ℕ → A) (n : ℕ) → length (up_to f n) ≡ n
  unfolding up_to
  length_up_to f zero = refl
  length_up_to f (suc n) = simp length-append (omega (arith, length_up_to f n))

  pub get_d_up_to : (f : ℕ → A) (n i : ℕ) (d : A) → i < n → get_or (up_to f n) i d ≡ f i
  unfolding up_to
  get_d_up_to f zero i d h = absurd (omega arith)
  get_d_up_to f (suc n) i d h =
      ⊎_elim (λ (e : i ≡ n). rw e (get_or_at (up_to f n) (f n) [] d n (length_up_to f n)))
      (λ (l : i < n).
      get_or-append (up_to f n) (f n ∷ []) d i (omega (arith, length_up_to f n)) ∙ get_d_up_to f n i d l)
      (eq-or-lt_of_le {n = i} {m = n} (omega arith))

  -- Only what f gives within the range matters.
  pub up_to_ext : (f g : ℕ → A) (n : ℕ) → ((i : ℕ) → i < n → f i ≡ g i) → up_to f n ≡ up_to g n
  unfolding up_to
  up_to_ext f g zero h = refl
  up_to_ext f g (suc n) h =
      ap₂ (λ (l : List A) (a : A). l ++ (a ∷ [])) (up_to_ext f g n (λ i l. h i (omega arith))) (h n (omega arith))

  pub length_padded : (f : ℕ → A) (d : A) (most n : ℕ) → n ≤ most → length (padded f d most n) ≡ most
  unfolding padded
  length_padded f d most n h = simp (length-append, length-replicate) (omega (arith, length_up_to f n))

  pub padded_ext : (f g : ℕ → A) (d : A) (most n : ℕ) → ((i : ℕ) → i < n → f i ≡ g i) → padded f d most n ≡ padded g d most n
  unfolding padded
  padded_ext f g d most n h = ap (λ (xs : List A). xs ++ replicate (most - n) d) (up_to_ext f g n h)

  -- Before anything is filled in, all is padding.
  pub padded_none : (f : ℕ → A) (d : A) (most : ℕ) → padded f d most 0 ≡ replicate most d
  unfolding padded up_to
  padded_none f d most = rw sub-zero refl

  -- To store f n at place n is to fill in one more.
  pub padded_set : (f : ℕ → A) (d : A) (most n : ℕ) → n < most → set (padded f d most n) n (f n) ≡ padded f d most (n + 1)
  unfolding padded up_to
  padded_set f d most n h =
      let e : most - n ≡ suc (most - suc n) = omega arith in
      rw (e, add-one) (set_at (up_to f n) d (replicate (most - suc n) d) (f n) n (length_up_to f n) ∙ sym (append_assoc (up_to f n) (f n ∷ []) (replicate (most - suc n) d)))

  -- The turn of a loop that fills an array.
  pub padded_turn : (f : ℕ → A) (d : A) (most n : ℕ) → n < most → (xs : List A) (x : A) → xs ≡ padded f d most n → x ≡ f n → set xs n x ≡ padded f d most (n + 1)
  padded_turn f d most n h xs x e g = rw (e, g) (padded_set f d most n h)

  pub get_d_padded : (f : ℕ → A) (d z : A) (most n i : ℕ) → i < n → get_or (padded f d most n) i z ≡ f i
  unfolding padded
  get_d_padded f d z most n i h =
      get_or-append (up_to f n) (replicate (most - n) d) z i (omega (arith, length_up_to f n)) ∙ get_d_up_to f n i z h

  pub join_to_zero : (f : ℕ → List A) → join_to f 0 ≡ []
  unfolding join_to
  join_to_zero f = refl

  pub join_to_suc : (f : ℕ → List A) (n : ℕ) → join_to f (n + 1) ≡ join_to f n ++ f n
  unfolding join_to
  join_to_suc f n = rw add-one refl

  -- Only what f gives within the range matters.
  pub join_to_ext : (f g : ℕ → List A) (n : ℕ) → ((i : ℕ) → i < n → f i ≡ g i) → join_to f n ≡ join_to g n
  unfolding join_to
  join_to_ext f g zero h = refl
  join_to_ext f g (suc n) h = ap₂ ◌++◌ (join_to_ext f g n (λ i l. h i (omega arith))) (h n (omega arith))

  -- n lists of at most b elements each.
  pub join_to_at_most : (f : ℕ → List A) (n b : ℕ) → ((i : ℕ) → i < n → length (f i) ≤ b) → length (join_to f n) ≤ n * b
  unfolding join_to
  join_to_at_most f zero b h = omega arith
  join_to_at_most f (suc n) b h =
      rw suc-mul
      (simp length-append (omega (arith, join_to_at_most f n b (λ i l. h i (omega arith)), h n (omega arith))))
