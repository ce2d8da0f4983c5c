-- A list that is filled from a place on, one element after another, whatever it held: each element so far has what it is to
-- have. Assumes nothing.
use Prim.Native.Nat.{ℕ, ◌+◌, ◌≤◌, ◌<◌}
use native.Mathlib.Omega.{arith}
use mathlib.Core.Path.{◌≡◌, refl}
use mathlib.Core.Logic.{◌⊎◌, inl, inr}
use mathlib.Core.List.{List}
use lib.ListN.{length, get_or, set}
use lib.Seq.{get_or-set_same}
use borrow.Author.Rules.{read_below, read_above}
use Rattle.lists.proofs.Over.{le_or_lt}

module _ {A : Type 0} (d : A) where
  -- The first n elements from place `base` on have what they are to have.
  unfoldable pub Filled : (ℕ → A → Type 0) → (base : ℕ) → List A → (n : ℕ) → Type 0
  Filled P base xs n = (i : ℕ) → i < n → P i (get_or xs (i + base) d)

  pub filled_none : (P : ℕ → A → Type 0) (base : ℕ) (xs : List A) → Filled P base xs 0
  unfolding Filled
  filled_none P base xs i h = absurd (omega arith)

  -- The element at a place, which is the i-th from the base on.
  pub filled_at : (P : ℕ → A → Type 0) (base : ℕ) (xs : List A) (n i at : ℕ) → at ≡ i + base → Filled P base xs n → i < n → P i (get_or xs at d)
  unfolding Filled
  filled_at P base xs n i at e f h = rw e (f i h)

  -- The next element.
  pub filled_more : (P : ℕ → A → Type 0) (base : ℕ) (xs : List A) (n at : ℕ) (x : A) → at ≡ n + base → at < length xs → Filled P base xs n → P n x → Filled P base (set xs at x) (n + 1)
  unfolding Filled
  filled_more P base xs n at x e room f p i h = go (le_or_lt n i)
    where
      go : (n ≤ i) ⊎ (i < n) → P i (get_or (set xs at x) (i + base) d)
      go (inl k) = let same : i ≡ n = omega arith in rw (same, ← e, get_or-set_same xs at x d room) p
      go (inr k) = rw (read_below A xs at (i + base) x d (get_or xs (i + base) d) (omega arith) refl) (f i k)

  -- What stands elsewhere stays.
  pub kept_before : (xs : List A) (i j : ℕ) (x : A) → j < i → get_or (set xs i x) j d ≡ get_or xs j d
  kept_before xs i j x h = read_below A xs i j x d (get_or xs j d) h refl

  -- Every element has what each former element and the new one has.
  pub all_keep : (P : A → Type 0) (xs : List A) (i : ℕ) (x : A) → i < length xs → ((j : ℕ) → j < length xs → P (get_or xs j d)) → P x → (j : ℕ) → j < length xs → P (get_or (set xs i x) j d)
  all_keep P xs i x room f p j h = go (le_or_lt i j) (le_or_lt j i)
    where
      go : (i ≤ j) ⊎ (j < i) → (j ≤ i) ⊎ (i < j) → P (get_or (set xs i x) j d)
      go (inr k) e = rw (read_below A xs i j x d (get_or xs j d) k refl) (f j h)
      go (inl k) (inr l) = rw (read_above A xs i j x d (get_or xs j d) l refl) (f j h)
      go (inl k) (inl l) = let same : j ≡ i = omega arith in rw (same, get_or-set_same xs i x d room) p
