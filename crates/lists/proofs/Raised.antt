-- An array whose slots are raised, from the last one back, to the longest that stands behind them; and a largest of largests. Assumes
-- nothing.
use Prim.Native.Nat.{ℕ, ◌+◌, ◌≤◌, ◌<◌, max}
use native.Mathlib.Omega.{arith}
use mathlib.Core.Path.{◌≡◌, refl, sym, ap, ◌∙◌}
use mathlib.Core.Bool.{Bool, true, false, cond}
use mathlib.Core.Logic.{⊎_elim}
use mathlib.Core.List.{List}
use lib.Dec.{ltb, leb}
use lib.ListN.{get_or, set}
use borrow.Author.Tests.{lt-ltb, le-ltb, le-leb, lt-leb}
use Rattle.lists.specs.Range.{largest_to, behind, raised_from, padded}
use Rattle.lists.proofs.Over.{le_or_lt, largest_at_most, below_largest}
use Rattle.lists.proofs.UpTo.{get_d_padded, padded_ext}
use Rattle.lists.proofs.Put.{padded_put}

-- Where a test fails, 0 stands for a largest, or for all that it is taken of.
pub largest_where : (b : Bool) (f : ℕ → ℕ) (n : ℕ) → cond b (largest_to f n) 0 ≡ largest_to (λ i. cond b (f i) 0) n
largest_where true f n = refl
largest_where false f n = omega (arith, largest_at_most (λ (i : ℕ). 0) n 0 (λ i h. omega arith))

-- The largest of a table, by rows or by columns.
pub largest_swap : (f : ℕ → ℕ → ℕ) (m n : ℕ) → largest_to (λ l. largest_to (λ t. f t l) n) m ≡ largest_to (λ t. largest_to (f t) m) n
largest_swap f m n =
    omega (
      arith,
      largest_at_most (λ (l : ℕ). largest_to (λ t. f t l) n) m (largest_to (λ t. largest_to (f t) m) n) (λ l h. largest_at_most (λ (t : ℕ). f t l) n _ (λ t k. row t l h k)),
      largest_at_most (λ (t : ℕ). largest_to (f t) m) n (largest_to (λ l. largest_to (λ t. f t l) n) m) (λ t k. largest_at_most (f t) m _ (λ l h. column t l h k)),
    )
  where
    row : (t l : ℕ) → l < m → t < n → f t l ≤ largest_to (λ t. largest_to (f t) m) n
    row t l h k = omega (arith, below_largest (f t) m l h, below_largest (λ (t : ℕ). largest_to (f t) m) n t k)

    column : (t l : ℕ) → l < m → t < n → f t l ≤ largest_to (λ l. largest_to (λ t. f t l) n) m
    column t l h k = omega (arith, below_largest (λ (t : ℕ). f t l) n t k, below_largest (λ (l : ℕ). largest_to (λ t. f t l) n) m l h)

module _ (f : ℕ → ℕ) (n : ℕ) where
  -- Nothing is behind the last.
  pub behind_last : (s : ℕ) → n ≤ s + 1 → behind f n s ≡ 0
  unfolding behind
  behind_last s h =
      omega (arith, largest_at_most (λ (t : ℕ). cond (ltb s t) (f t) 0) n 0 (λ t k. rw (le-ltb s t (omega arith)) (omega arith)))

  -- One place further to the front, one more is behind.
  pub behind_next : (s u : ℕ) → u ≡ s + 1 → u < n → behind f n s ≡ max (behind f n u) (f u)
  unfolding behind
  behind_next s u e h = omega (arith, most_behind, more, here)
    where
      most_behind : largest_to (λ t. cond (ltb s t) (f t) 0) n ≤ max (largest_to (λ t. cond (ltb u t) (f t) 0) n) (f u)
      most_behind = largest_at_most (λ (t : ℕ). cond (ltb s t) (f t) 0) n _ each
        where
          each : (t : ℕ) → t < n → cond (ltb s t) (f t) 0 ≤ max (largest_to (λ t. cond (ltb u t) (f t) 0) n) (f u)
          each t k =
              ⊎_elim (λ (v : t ≤ s). rw (le-ltb s t v) (omega arith)) (λ (v : s < t). rw (lt-ltb s t v) (later v)) (le_or_lt t s)
            where
              later : s < t → f t ≤ max (largest_to (λ t. cond (ltb u t) (f t) 0) n) (f u)
              later v =
                  ⊎_elim (λ (w : t ≤ u). omega (arith, ap f (at w)))
                  (λ (w : u < t). omega (arith, rw (lt-ltb u t w) at (below_largest (λ (t : ℕ). cond (ltb u t) (f t) 0) n t k)))
                  (le_or_lt t u)
                where
                  at : t ≤ u → t ≡ u
                  at w = omega arith

      more : largest_to (λ t. cond (ltb u t) (f t) 0) n ≤ largest_to (λ t. cond (ltb s t) (f t) 0) n
      more = largest_at_most (λ (t : ℕ). cond (ltb u t) (f t) 0) n _ each
        where
          each : (t : ℕ) → t < n → cond (ltb u t) (f t) 0 ≤ largest_to (λ t. cond (ltb s t) (f t) 0) n
          each t k =
              ⊎_elim (λ (v : t ≤ u). rw (le-ltb u t v) (omega arith))
              (λ (v : u < t). rw (lt-ltb u t v) (rw (lt-ltb s t (omega arith)) at (below_largest (λ (t : ℕ). cond (ltb s t) (f t) 0) n t k)))
              (le_or_lt t u)

      here : f u ≤ largest_to (λ t. cond (ltb s t) (f t) 0) n
      here = rw (lt-ltb s u (omega arith)) at (below_largest (λ (t : ℕ). cond (ltb s t) (f t) 0) n u h)

  module _ (a : ℕ → ℕ) (most : ℕ) where
    -- The last slot has nothing behind it.
    pub raised_last : (t : ℕ) {xs : List ℕ} → n ≤ t + 1 → xs ≡ padded a 0 most n → xs ≡ padded (raised_from f n a t) 0 most n
    raised_last t h e = e ∙ padded_ext a (raised_from f n a t) 0 most n each
      where
        each : (s : ℕ) → s < n → a s ≡ raised_from f n a t s
        each s k =
            ⊎_elim (λ (u : t ≤ s). rw (le-leb t s u) (omega (arith, behind_last s (omega arith))))
            (λ (u : s < t). rw (lt-leb t s u) refl)
            (le_or_lt t s)

    -- The slot before is raised by what is behind it.
    pub raised_next : (t u : ℕ) {xs : List ℕ} {longest x v : ℕ} → u ≡ t + 1 → u < n → longest ≡ behind f n t → xs ≡ padded (raised_from f n a u) 0 most n → x ≡ get_or xs t 0 → v ≡ max x longest → set xs t v ≡ padded (raised_from f n a t) 0 most n
    raised_next t u {xs} {longest} {x} {v} next h el e ex ev =
        ap (λ (ys : List ℕ). set ys t v) e ∙ padded_put (raised_from f n a u) (raised_from f n a t) 0 most n t v (omega arith) here others
      where
        was : x ≡ a t
        was =
            ex ∙ ap (λ (ys : List ℕ). get_or ys t 0) e ∙ get_d_padded (raised_from f n a u) 0 0 most n t (omega arith) ∙
            rw (lt-leb u t (omega arith)) refl

        here : raised_from f n a t t ≡ v
        here = rw (le-leb t t (omega arith)) (omega (arith, was, ev, el))

        others : (s : ℕ) → s < n → (s ≡ t → ⊥) → raised_from f n a u s ≡ raised_from f n a t s
        others s k ne =
            ⊎_elim (λ (w : s ≤ t). rw (lt-leb u s (omega arith), lt-leb t s (before w)) refl)
            (λ (w : t < s). rw (le-leb u s (omega arith), le-leb t s (omega arith)) refl)
            (le_or_lt s t)
          where
            before : s ≤ t → s < t
            before w = ⊎_elim (λ (q : t ≤ s). absurd (ne (omega arith))) (λ (q : s < t). q) (le_or_lt t s)

    -- All slots, where those before t are not to be raised.
    pub raised_all : (t : ℕ) (b : ℕ → ℕ) {xs : List ℕ} → xs ≡ padded (raised_from f n a t) 0 most n → ((s : ℕ) → s < n → b s ≡ max (a s) (cond (leb t s) (behind f n s) 0)) → xs ≡ padded b 0 most n
    raised_all t b e h = e ∙ padded_ext (raised_from f n a t) b 0 most n (λ s k. each (leb t s) (a s) (behind f n s) ∙ sym (h s k))
      where
        each : (c : Bool) (x y : ℕ) → cond c (max x y) x ≡ max x (cond c y 0)
        each true x y = refl
        each false x y = omega arith
