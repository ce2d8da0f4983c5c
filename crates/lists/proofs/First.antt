-- Laws of "the first in a range that …": what a search may conclude at each step, what its answer means, and that
-- nothing outside the range matters. Assumes nothing.
use Prim.Native.Nat.{ℕ, zero, suc, ◌+◌, ◌-◌, ◌≤◌, ◌<◌}
use native.Mathlib.Nat.{sub-eq-zero_of_le, eq-or-lt_of_le}
use native.Mathlib.Numerals.{add-one}
use native.Mathlib.Omega.{arith}
use mathlib.Core.Path.{◌≡◌, refl, ap, ◌∙◌}
use mathlib.Core.Bool.{Bool, true, false, cond}
use mathlib.Core.Logic.{⊎_elim}
use mathlib.Core.Option.{Option, none, some, none-ne-some, some-ne-none, some-injective}
use Rattle.lists.specs.Range.{first_of, first_such, such, or_else}

------------------------------------------------------------------------
-- The steps of a search that stands at i in the range 0 .. n − 1

module _ {A : Type 0} (f : ℕ → Option A) where
  first_of_hit : (n a : ℕ) (v : A) → f a ≡ some v → first_of f (suc n) a ≡ some v
  unfolding first_of
  first_of_hit n a v e = ap (λ (o : Option A). or_else o (first_of f n (suc a))) e

  first_of_miss : (n a : ℕ) → f a ≡ none → first_of f (suc n) a ≡ first_of f n (suc a)
  unfolding first_of
  first_of_miss n a e = ap (λ (o : Option A). or_else o (first_of f n (suc a))) e

  one_more_left : (n i : ℕ) → i < n → n - i ≡ suc (n - suc i)
  one_more_left n i h = omega arith

  -- Where f gives something at i, that is the answer for what is left.
  pub first_of_here : (n i : ℕ) (v : A) → i < n → f i ≡ some v → first_of f (n - i) i ≡ some v
  first_of_here n i v h e = rw (one_more_left n i h) (first_of_hit (n - suc i) i v e)

  -- Where f gives nothing at i, the answer is that for what is left after i.
  pub first_of_next : (n i : ℕ) → i < n → f i ≡ none → first_of f (n - i) i ≡ first_of f (n - (i + 1)) (i + 1)
  first_of_next n i h e = rw (add-one, one_more_left n i h) (first_of_miss (n - suc i) i e)

  -- Where nothing is left, there is none.
  pub first_of_over : (n i : ℕ) → n ≤ i → first_of f (n - i) i ≡ none
  unfolding first_of
  first_of_over n i h = rw (sub-eq-zero_of_le {n = n} {m = i} h) refl

------------------------------------------------------------------------
-- What an answer means

-- x is the first of a .. a + n − 1 at which f gives something, and v is what it gives there.
pub record IsFirst {A : Type 0} (f : ℕ → Option A) (n a x : ℕ) (v : A) : Type 0 where
  pub from : a ≤ x
  pub within : x < a + n
  pub gives : f x ≡ some v
  pub before : (y : ℕ) → a ≤ y → y < x → f y ≡ none

module _ {A : Type 0} (f : ℕ → Option A) where
  first_after_miss : {n a x : ℕ} {v : A} → f a ≡ none → IsFirst f n (suc a) x v → IsFirst f (suc n) a x v
  first_after_miss {n} {a} e i =
      record {
        from = omega (arith, i.from);
        within = omega (arith, i.within);
        gives = i.gives;
        before =
            λ y l u.
            ⊎_elim (λ (q : a ≡ y). rw (← q) e) (λ (q : a < y). i.before y q u) (eq-or-lt_of_le l);
      }

  -- An answer is what f gives at the first place in the range at which it gives something.
  pub first_of_means : (n a : ℕ) (v : A) → first_of f n a ≡ some v → (x : ℕ) × IsFirst f n a x v
  unfolding first_of
  first_of_means zero a v e = absurd (none-ne-some v e)
  first_of_means (suc n) a v e = go (first_of_means n (suc a) v) (f a) refl e
    where
      go : (first_of f n (suc a) ≡ some v → (x : ℕ) × IsFirst f n (suc a) x v) → (o : Option A) → f a ≡ o → or_else o (first_of f n (suc a)) ≡ some v → (x : ℕ) × IsFirst f (suc n) a x v
      go later (some w) g q = (
        a,
        record {
          from = omega arith;
          within = omega arith;
          gives = g ∙ q;
          before = λ y l u. absurd (omega arith);
        },
      )
      go later none g q = let r = later q in (r.0, first_after_miss g r.1)

  -- No answer: f gives nothing anywhere in the range.
  pub first_of_none : (n a : ℕ) → first_of f n a ≡ none → (y : ℕ) → a ≤ y → y < a + n → f y ≡ none
  unfolding first_of
  first_of_none zero a e y l u = absurd (omega arith)
  first_of_none (suc n) a e y l u = go (λ q h. first_of_none n (suc a) q y h (omega arith)) (f a) refl e
    where
      go : (first_of f n (suc a) ≡ none → a < y → f y ≡ none) → (o : Option A) → f a ≡ o → or_else o (first_of f n (suc a)) ≡ none → f y ≡ none
      go later (some w) g q = absurd (some-ne-none w q)
      go later none g q = ⊎_elim (λ (h : a ≡ y). rw (← h) g) (λ (h : a < y). later q h) (eq-or-lt_of_le l)

  -- The first place decides: there is one answer only.
  pub first_of_is : (n a x : ℕ) (v : A) → IsFirst f n a x v → first_of f n a ≡ some v
  first_of_is zero a x v i = absurd (omega (arith, i.from, i.within))
  first_of_is (suc n) a x v i =
      ⊎_elim (λ (h : a ≡ x). first_of_hit f n a v (rw h i.gives))
      (λ (h : a < x).
      first_of_miss f n a (i.before a (omega arith) h) ∙
      first_of_is n (suc a) x v
      (record {
        from = h;
        within = omega (arith, i.within);
        gives = i.gives;
        before = λ y l u. i.before y (omega arith) u;
      }))
      (eq-or-lt_of_le i.from)

  -- Where f gives nothing in the range there is no answer.
  pub first_of_nowhere : (n a : ℕ) → ((y : ℕ) → a ≤ y → y < a + n → f y ≡ none) → first_of f n a ≡ none
  unfolding first_of
  first_of_nowhere zero a h = refl
  first_of_nowhere (suc n) a h =
      first_of_miss f n a (h a (omega arith) (omega arith)) ∙
      first_of_nowhere n (suc a) (λ y l u. h y (omega arith) (omega arith))

-- One place more: it answers where nothing before it does.
pub first_of_more : {A : Type 0} (f : ℕ → Option A) (n : ℕ) → first_of f (n + 1) 0 ≡ or_else (first_of f n 0) (f n)
unfolding first_of
first_of_more {A} f n = rw add-one (go n 0 ∙ ap (λ (y : ℕ). or_else (first_of f n 0) (f y)) (omega arith))
  where
    last : (o : Option A) → or_else o none ≡ o
    last none = refl
    last (some v) = refl

    joined : (o p q : Option A) → or_else o (or_else p q) ≡ or_else (or_else o p) q
    joined none p q = refl
    joined (some v) p q = refl

    go : (n a : ℕ) → first_of f (suc n) a ≡ or_else (first_of f n a) (f (a + n))
    go zero a = last (f a) ∙ ap f (omega arith)
    go (suc n) a =
        ap (or_else (f a)) (go n (suc a) ∙ ap (λ (y : ℕ). or_else (first_of f n (suc a)) (f y)) (omega arith)) ∙
        joined (f a) (first_of f n (suc a)) (f (a + suc n))

-- Only what f gives within the range matters.
pub first_of_ext : {A : Type 0} (f g : ℕ → Option A) (n a : ℕ) → ((y : ℕ) → a ≤ y → y < a + n → f y ≡ g y) → first_of f n a ≡ first_of g n a
unfolding first_of
first_of_ext f g zero a h = refl
first_of_ext {A} f g (suc n) a h =
    ap (λ (o : Option A). or_else o (first_of f n (suc a))) (h a (omega arith) (omega arith)) ∙
    ap (λ (o : Option A). or_else (g a) o) (first_of_ext f g n (suc a) (λ y l u. h y (omega arith) (omega arith)))

------------------------------------------------------------------------
-- The same for a test

-- x is the first of a .. a + n − 1 that passes the test.
pub record IsFirstSuch (p : ℕ → Bool) (n a x : ℕ) : Type 0 where
  pub from : a ≤ x
  pub within : x < a + n
  pub passes : p x ≡ true
  pub before : (y : ℕ) → a ≤ y → y < x → p y ≡ false

such_passes : (p : ℕ → Bool) (x v : ℕ) → such p x ≡ some v → (p x ≡ true) × (x ≡ v)
such_passes p x v e = go (p x) refl e
  where
    go : (b : Bool) → p x ≡ b → cond b (some x) none ≡ some v → (p x ≡ true) × (x ≡ v)
    go true g q = (g, some-injective x v q)
    go false g q = absurd (none-ne-some v q)

such_fails : (p : ℕ → Bool) (x : ℕ) → such p x ≡ none → p x ≡ false
such_fails p x e = go (p x) refl e
  where
    go : (b : Bool) → p x ≡ b → cond b (some x) none ≡ none → p x ≡ false
    go true g q = absurd (some-ne-none x q)
    go false g q = g

such_true : (p : ℕ → Bool) (x : ℕ) → p x ≡ true → such p x ≡ some x
such_true p x e = rw e refl

such_false : (p : ℕ → Bool) (x : ℕ) → p x ≡ false → such p x ≡ none
such_false p x e = rw e refl

module _ (p : ℕ → Bool) where
  -- The steps of a search that stands at i in the range 0 .. n − 1.
  pub first_such_here : (n i : ℕ) → i < n → p i ≡ true → first_such p (n - i) i ≡ some i
  unfolding first_such
  first_such_here n i h e = first_of_here (such p) n i i h (such_true p i e)

  pub first_such_next : (n i : ℕ) → i < n → p i ≡ false → first_such p (n - i) i ≡ first_such p (n - (i + 1)) (i + 1)
  unfolding first_such
  first_such_next n i h e = first_of_next (such p) n i h (such_false p i e)

  pub first_such_over : (n i : ℕ) → n ≤ i → first_such p (n - i) i ≡ none
  unfolding first_such
  first_such_over n i h = first_of_over (such p) n i h

  -- An answer is the first that passes.
  pub first_such_means : (n a x : ℕ) → first_such p n a ≡ some x → IsFirstSuch p n a x
  unfolding first_such
  first_such_means n a x e = go (first_of_means (such p) n a x e)
    where
      go : ((y : ℕ) × IsFirst (such p) n a y x) → IsFirstSuch p n a x
      go r =
          let s = such_passes p r.0 x r.1.gives in
          record {
            from = omega (arith, r.1.from, s.1);
            within = omega (arith, r.1.within, s.1);
            passes = rw (← s.1) s.0;
            before = λ y l u. such_fails p y (r.1.before y l (rw s.1 u));
          }

  -- No answer: nothing in the range passes.
  pub first_such_none : (n a : ℕ) → first_such p n a ≡ none → (y : ℕ) → a ≤ y → y < a + n → p y ≡ false
  unfolding first_such
  first_such_none n a e y l u = such_fails p y (first_of_none (such p) n a e y l u)

  -- The first that passes is the answer, so there is one answer only.
  pub first_such_is : (n a x : ℕ) → IsFirstSuch p n a x → first_such p n a ≡ some x
  unfolding first_such
  first_such_is n a x i =
      first_of_is (such p) n a x x
      (record {
        from = i.from;
        within = i.within;
        gives = such_true p x i.passes;
        before = λ y l u. such_false p y (i.before y l u);
      })

  -- Where nothing in the range passes there is no answer.
  pub first_such_nowhere : (n a : ℕ) → ((y : ℕ) → a ≤ y → y < a + n → p y ≡ false) → first_such p n a ≡ none
  unfolding first_such
  first_such_nowhere n a h = first_of_nowhere (such p) n a (λ y l u. such_false p y (h y l u))

-- Only the test within the range matters.
pub first_such_ext : (p q : ℕ → Bool) (n a : ℕ) → ((y : ℕ) → a ≤ y → y < a + n → p y ≡ q y) → first_such p n a ≡ first_such q n a
unfolding first_such
first_such_ext p q n a h = first_of_ext (such p) (such q) n a (λ y l u. ap (λ (b : Bool). cond b (some y) none) (h y l u))
