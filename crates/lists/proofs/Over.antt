-- Laws of sums, largest values and "every" over a range. Assumes nothing.
use Prim.Native.Nat.{ℕ, zero, suc, ◌+◌, ◌*◌, ◌≤◌, ◌<◌, max}
use native.Mathlib.Nat.{eq-or-lt_of_le, le-max_left, le-max_right, max-le, le_trans, suc-mul, lt_of_not-le}
use native.Mathlib.Decide.{dec_le, ℕ_discrete}
use native.Mathlib.Numerals.{add-one}
use native.Mathlib.Omega.{arith}
use mathlib.Core.Path.{◌≡◌, refl, sym, ap₂, ◌∙◌}
use mathlib.Core.Bool.{Bool, true, false, ◌&&◌, true≢false}
use mathlib.Core.Logic.{◌⊎◌, inl, inr, ⊎_elim}
use Rattle.lists.specs.Range.{sum_to, largest_to, all_to}

-- Two numbers are in order one way or the other.
pub le_or_lt : (a b : ℕ) → (a ≤ b) ⊎ (b < a)
le_or_lt a b = elim (dec_le a b) [ yes h ↦ inl h | no h ↦ inr (lt_of_not-le h) ]

-- They are the same or they are not.
pub same_or_not : (a b : ℕ) → (a ≡ b) ⊎ (a ≡ b → ⊥)
same_or_not a b = elim (ℕ_discrete a b) [ yes e ↦ inl e | no n ↦ inr n ]

------------------------------------------------------------------------
-- Sums

pub sum_to_zero : (f : ℕ → ℕ) → sum_to f 0 ≡ 0
unfolding sum_to
sum_to_zero f = refl

pub sum_to_suc : (f : ℕ → ℕ) (n : ℕ) → sum_to f (n + 1) ≡ sum_to f n + f n
unfolding sum_to
sum_to_suc f n = rw add-one refl

-- Only what f gives within the range matters.
pub sum_to_ext : (f g : ℕ → ℕ) (n : ℕ) → ((i : ℕ) → i < n → f i ≡ g i) → sum_to f n ≡ sum_to g n
unfolding sum_to
sum_to_ext f g zero h = refl
sum_to_ext f g (suc n) h = ap₂ ◌+◌ (sum_to_ext f g n (λ i l. h i (omega arith))) (h n (omega arith))

pub sum_to_mono : (f g : ℕ → ℕ) (n : ℕ) → ((i : ℕ) → i < n → f i ≤ g i) → sum_to f n ≤ sum_to g n
unfolding sum_to
sum_to_mono f g zero h = omega arith
sum_to_mono f g (suc n) h = omega (arith, sum_to_mono f g n (λ i l. h i (omega arith)), h n (omega arith))

-- A longer sum is no smaller.
pub sum_to_longer : (f : ℕ → ℕ) (m n : ℕ) → m ≤ n → sum_to f m ≤ sum_to f n
unfolding sum_to
sum_to_longer f m zero h = let e : m ≡ 0 = omega arith in rw e (omega arith)
sum_to_longer f m (suc n) h =
    ⊎_elim (λ (e : m ≡ suc n). rw e (omega arith)) (λ (l : m < suc n). omega (arith, sum_to_longer f m n (omega arith)))
    (eq-or-lt_of_le h)

-- n numbers, each at most b.
pub sum_to_at_most : (f : ℕ → ℕ) (n b : ℕ) → ((i : ℕ) → i < n → f i ≤ b) → sum_to f n ≤ n * b
unfolding sum_to
sum_to_at_most f zero b h = omega arith
sum_to_at_most f (suc n) b h =
    rw suc-mul (omega (arith, sum_to_at_most f n b (λ i l. h i (omega arith)), h n (omega arith)))

------------------------------------------------------------------------
-- The largest

pub largest_to_zero : (f : ℕ → ℕ) → largest_to f 0 ≡ 0
unfolding largest_to
largest_to_zero f = refl

pub largest_to_suc : (f : ℕ → ℕ) (n : ℕ) → largest_to f (n + 1) ≡ max (largest_to f n) (f n)
unfolding largest_to
largest_to_suc f n = rw add-one refl

pub largest_to_ext : (f g : ℕ → ℕ) (n : ℕ) → ((i : ℕ) → i < n → f i ≡ g i) → largest_to f n ≡ largest_to g n
unfolding largest_to
largest_to_ext f g zero h = refl
largest_to_ext f g (suc n) h = ap₂ max (largest_to_ext f g n (λ i l. h i (omega arith))) (h n (omega arith))

-- Nothing in the range is above the largest.
pub below_largest : (f : ℕ → ℕ) (n i : ℕ) → i < n → f i ≤ largest_to f n
unfolding largest_to
below_largest f zero i h = absurd (omega arith)
below_largest f (suc n) i h =
    ⊎_elim (λ (e : i ≡ n). rw e (le-max_right (largest_to f n) (f n)))
    (λ (l : i < n). le_trans (below_largest f n i l) (le-max_left (largest_to f n) (f n)))
    (eq-or-lt_of_le {n = i} {m = n} (omega arith))

-- The largest is at most what bounds each.
pub largest_at_most : (f : ℕ → ℕ) (n b : ℕ) → ((i : ℕ) → i < n → f i ≤ b) → largest_to f n ≤ b
unfolding largest_to
largest_at_most f zero b h = omega arith
largest_at_most f (suc n) b h = max-le (largest_at_most f n b (λ i l. h i (omega arith))) (h n (omega arith))

-- The largest of a range that is not empty is reached, or is 0.
pub largest_reached : (f : ℕ → ℕ) (n : ℕ) → (largest_to f n ≡ 0) ⊎ ((i : ℕ) × (i < n) × (f i ≡ largest_to f n))
unfolding largest_to
largest_reached f zero = inl refl
largest_reached f (suc n) = go (largest_reached f n)
  where
    last_wins : largest_to f n ≤ f n → (i : ℕ) × (i < suc n) × (f i ≡ max (largest_to f n) (f n))
    last_wins l = (n, omega arith, omega arith)

    go : (largest_to f n ≡ 0) ⊎ ((i : ℕ) × (i < n) × (f i ≡ largest_to f n)) → (max (largest_to f n) (f n) ≡ 0) ⊎ ((i : ℕ) × (i < suc n) × (f i ≡ max (largest_to f n) (f n)))
    go (inl z) = inr (last_wins (omega arith))
    go (inr r) =
        ⊎_elim (λ (l : largest_to f n ≤ f n). inr (last_wins l))
        (λ (l : f n < largest_to f n). inr (r.0, omega (arith, r.1), omega (arith, r.2)))
        (le_or_lt (largest_to f n) (f n))

------------------------------------------------------------------------
-- Every

-- Both parts of a conjunction that holds.
pub both_true : (a b : Bool) → (a && b) ≡ true → (a ≡ true) × (b ≡ true)
both_true true b e = (refl, e)
both_true false b e = absurd (true≢false (sym e))

pub all_to_suc : (p : ℕ → Bool) (n : ℕ) → all_to p (n + 1) ≡ (all_to p n && p n)
unfolding all_to
all_to_suc p n = rw add-one refl

pub all_to_ext : (p q : ℕ → Bool) (n : ℕ) → ((i : ℕ) → i < n → p i ≡ q i) → all_to p n ≡ all_to q n
unfolding all_to
all_to_ext p q zero h = refl
all_to_ext p q (suc n) h = ap₂ ◌&&◌ (all_to_ext p q n (λ i l. h i (omega arith))) (h n (omega arith))

-- Where every one passes, each does.
pub all_to_means : (p : ℕ → Bool) (n : ℕ) → all_to p n ≡ true → (i : ℕ) → i < n → p i ≡ true
unfolding all_to
all_to_means p zero e i h = absurd (omega arith)
all_to_means p (suc n) e i h =
    let both = both_true (all_to p n) (p n) e in
    ⊎_elim (λ (q : i ≡ n). rw q both.1) (λ (l : i < n). all_to_means p n both.0 i l)
    (eq-or-lt_of_le {n = i} {m = n} (omega arith))

-- Where each passes, every one does.
pub all_to_is : (p : ℕ → Bool) (n : ℕ) → ((i : ℕ) → i < n → p i ≡ true) → all_to p n ≡ true
unfolding all_to
all_to_is p zero h = refl
all_to_is p (suc n) h = rw (all_to_is p n (λ i l. h i (omega arith)), h n (omega arith))

-- One that fails decides.
pub all_to_fails : (p : ℕ → Bool) (n i : ℕ) → i < n → p i ≡ false → all_to p n ≡ false
all_to_fails p n i h e = go (all_to p n) refl
  where
    go : (b : Bool) → all_to p n ≡ b → b ≡ false
    go false q = refl
    go true q = sym (all_to_means p n q i h) ∙ e
