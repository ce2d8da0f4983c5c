-- Laws of the first place where a range is at its largest, 0 where the range is empty. Assumes nothing.
use Prim.Native.Nat.{ℕ, ◌+◌, ◌≤◌, ◌<◌}
use native.Mathlib.Nat.{le_antisymm, le_trans, eq-or-lt_of_le}
use native.Mathlib.Omega.{arith}
use mathlib.Core.Path.{◌≡◌, refl, sym, ap, ◌∙◌}
use mathlib.Core.Logic.{◌⊎◌, ⊎_elim}
use borrow.Author.Tests.{eqb-true, eqb-false, eq-eqb, ne_eqb}
use Rattle.lists.specs.Range.{largest_to, first_of, first_such, first_largest}
use Rattle.lists.proofs.First.{IsFirstSuch, first_such_is}
use Rattle.lists.proofs.Over.{largest_at_most, largest_to_zero, largest_to_ext, below_largest, le_or_lt}
use Rattle.lists.proofs.Largest.{at_largest, largest_new, largest_old, first_largest_lem}
use Rattle.outer.specs.Blocking.{number_or}
use Rattle.job.specs.Response.{first_at}

module _ (f : ℕ → ℕ) where
  pub by_first : (n x : ℕ) → IsFirstSuch (at_largest f n) n 0 x → first_at f n ≡ x
  unfolding first_at first_largest
  by_first n x i = ap (number_or 0) (first_such_is (at_largest f n) n 0 x i)

  pub first_at_empty : first_at f 0 ≡ 0
  unfolding first_at first_largest first_such first_of
  first_at_empty = refl

  -- The first place is in the range.
  pub first_at_within : (n : ℕ) → first_at f n ≤ n
  first_at_within n =
      ⊎_elim (λ (u : n ≤ 0). let e : n ≡ 0 = omega arith in omega (arith, ap (first_at f) e, first_at_empty))
      (λ (u : 0 < n). let r = first_largest_lem f n u in omega (arith, by_first n r.0 r.1, r.1.within))
      (le_or_lt n 0)

  pub first_at_below : (n : ℕ) → 0 < n → first_at f n < n
  first_at_below n u = let r = first_largest_lem f n u in omega (arith, by_first n r.0 r.1, r.1.within)

  -- A value above all before it is the new largest, and is first reached there.
  pub first_at_new : (n : ℕ) → largest_to f n < f n → first_at f (n + 1) ≡ n
  first_at_new n h =
      by_first (n + 1) n
      (record {
        from = omega arith;
        within = omega arith;
        passes = eq-eqb _ _ (sym (largest_new f n h));
        before =
            λ y l u.
            ne_eqb _ _
            (λ (e : f y ≡ largest_to f (n + 1)). omega (arith, below_largest f n y u, largest_new f n h));
      })

  -- Any other value leaves the first place where it was.
  pub first_at_old : (n : ℕ) → f n ≤ largest_to f n → first_at f (n + 1) ≡ first_at f n
  first_at_old n h = ⊎_elim at_start later (le_or_lt n 0)
    where
      at_start : n ≤ 0 → first_at f (n + 1) ≡ first_at f n
      at_start u =
          let e : n ≡ 0 = omega arith in
          by_first (n + 1) 0
          (record {
            from = omega arith;
            within = omega arith;
            passes = eq-eqb (f 0) (largest_to f (n + 1)) (omega (arith, ap f e, largest_old f n h, ap (largest_to f) e, largest_to_zero f));
            before = λ y l q. absurd (omega arith);
          }) ∙
          sym (ap (first_at f) e ∙ first_at_empty)

      later : 0 < n → first_at f (n + 1) ≡ first_at f n
      later u =
          let r = first_largest_lem f n u in
          let i = r.1 in
          by_first (n + 1) r.0
          (record {
            from = omega arith;
            within = omega (arith, i.within);
            passes = eq-eqb _ _ (eqb-true _ _ i.passes ∙ sym (largest_old f n h));
            before =
                λ y l q.
                ne_eqb _ _ (λ (e : f y ≡ largest_to f (n + 1)). eqb-false _ _ (i.before y l q) (e ∙ largest_old f n h));
          }) ∙
          sym (by_first n r.0 i)

-- Only what f gives within the range matters.
pub first_at_ext : (f g : ℕ → ℕ) (n : ℕ) → ((i : ℕ) → i < n → f i ≡ g i) → first_at f n ≡ first_at g n
first_at_ext f g n h = ⊎_elim empty some_there (le_or_lt n 0)
  where
    empty : n ≤ 0 → first_at f n ≡ first_at g n
    empty u =
        let e : n ≡ 0 = omega arith in
        ap (first_at f) e ∙ first_at_empty f ∙ sym (first_at_empty g) ∙ sym (ap (first_at g) e)

    some_there : 0 < n → first_at f n ≡ first_at g n
    some_there u =
        let r = first_largest_lem g n u in
        let i = r.1 in
        by_first f n r.0
        (record {
          from = omega arith;
          within = omega (arith, i.within);
          passes = eq-eqb _ _ (h r.0 (omega (arith, i.within)) ∙ eqb-true _ _ i.passes ∙ sym (largest_to_ext f g n h));
          before =
              λ y l q.
              ne_eqb _ _
              (λ (e : f y ≡ largest_to f n).
              eqb-false _ _ (i.before y l q) (sym (h y (omega (arith, i.within))) ∙ e ∙ largest_to_ext f g n h));
        }) ∙
        sym (by_first g n r.0 i)

-- The first largest of f is that of g where g is nowhere above f and every value of f above 0 has, at a place that g shares with
-- f, a greater one, or an equal one no later.
module _ (f g : ℕ → ℕ) (m : ℕ) (below : (l : ℕ) → l < m → g l ≤ f l) (led : (l : ℕ) → l < m → 0 < f l → (j : ℕ) × (j < m) × (f j ≡ g j) × ((f l < f j) ⊎ ((f l ≡ f j) × (j ≤ l)))) where
  reaches : (l : ℕ) → l < m → f l ≤ largest_to g m
  reaches l h = ⊎_elim (λ (u : f l ≤ 0). omega arith) by_leader (le_or_lt (f l) 0)
    where
      by_leader : 0 < f l → f l ≤ largest_to g m
      by_leader u =
          let j = led l h u in
          let top = below_largest g m j.0 j.1 in
          ⊎_elim (λ (q : f l < f j.0). omega (arith, j.2)) (λ (q : (f l ≡ f j.0) × (j.0 ≤ l)). omega (arith, j.2, q.0)) j.3

  pub largest_led : largest_to g m ≡ largest_to f m
  largest_led =
      le_antisymm
      (largest_at_most g m (largest_to f m) (λ l h. le_trans (below l h) (below_largest f m l h)))
      (largest_at_most f m (largest_to g m) reaches)

  pub first_at_led : first_at g m ≡ first_at f m
  first_at_led = ⊎_elim nothing something (le_or_lt (largest_to f m) 0)
    where
      nothing : largest_to f m ≤ 0 → first_at g m ≡ first_at f m
      nothing u = first_at_ext g f m (λ l h. omega (arith, below l h, below_largest f m l h))

      something : 0 < largest_to f m → first_at g m ≡ first_at f m
      something u = ⊎_elim (λ (e : m ≤ 0). absurd (omega (arith, largest_at_most f m 0 (λ l h. absurd (omega arith))))) there (le_or_lt m 0)
        where
          there : 0 < m → first_at g m ≡ first_at f m
          there pos =
              let r = first_largest_lem f m pos in
              let x = r.0 in
              let i = r.1 in
              let top : f x ≡ largest_to f m = eqb-true _ _ i.passes in
              let j = led x (omega (arith, i.within)) (omega arith) in
              let same : g x ≡ f x =
              ⊎_elim (λ (q : f x < f j.0). absurd (omega (arith, below_largest f m j.0 j.1)))
              (λ (q : (f x ≡ f j.0) × (j.0 ≤ x)).
              ⊎_elim (λ (e : j.0 ≡ x). rw (← e) (sym j.2))
              (λ (e : j.0 < x). absurd (eqb-false _ _ (i.before j.0 (omega arith) e) (sym q.0 ∙ top)))
              (eq-or-lt_of_le q.1))
              j.3 in
              by_first g m x
              (record {
                from = omega arith;
                within = i.within;
                passes = eq-eqb _ _ (same ∙ top ∙ sym largest_led);
                before =
                    λ y a b.
                    ne_eqb _ _
                    (λ (e : g y ≡ largest_to g m).
                    eqb-false _ _ (i.before y a b)
                    (le_antisymm (below_largest f m y (omega (arith, i.within))) (omega (arith, below y (omega (arith, i.within)), largest_led))));
              }) ∙
              sym (by_first f m x i)
