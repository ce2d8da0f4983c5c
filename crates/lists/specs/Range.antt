-- Ranges: "the first that …", "the sum over …", "the largest over …", "every …", and the list of all, each defined once.
-- A range is given by how many numbers it has; it starts from 0, or from the number named. Assumes nothing.
use Rattle.std.specs.Prelude.{ℕ, zero, suc, ◌+◌, ◌-◌, max, Bool, true, cond, ◌&&◌, List, [], ◌∷◌, ◌++◌, eqb, leb, ltb, replicate}
use Rattle.std.proofs.Math.Option.{Option, none, some}

-- f 0 + f 1 + … + f (n − 1).
unfoldable pub sum_to : (ℕ → ℕ) → ℕ → ℕ
sum_to f zero = zero
sum_to f (suc n) = sum_to f n + f n

-- The largest of f 0, f 1, …, f (n − 1); 0 where there is none.
unfoldable pub largest_to : (ℕ → ℕ) → ℕ → ℕ
largest_to f zero = zero
largest_to f (suc n) = max (largest_to f n) (f n)

-- The largest of f (s + 1), f (s + 2), …, f (n − 1); 0 where there is none.
unfoldable pub behind : (ℕ → ℕ) → ℕ → ℕ → ℕ
behind f n s = largest_to (λ t. cond (ltb s t) (f t) 0) n

-- a s, and from t on raised to the largest of f behind s, among the first n.
abbrev pub raised_from : (ℕ → ℕ) → ℕ → (ℕ → ℕ) → ℕ → ℕ → ℕ
raised_from f n a t s = cond (leb t s) (max (a s) (behind f n s)) (a s)

-- Whether each of 0, 1, …, n − 1 passes the test.
unfoldable pub all_to : (ℕ → Bool) → ℕ → Bool
all_to p zero = true
all_to p (suc n) = all_to p n && p n

module _ {A : Type 0} where
  -- What is there, or else the other.
  abbrev pub or_else : Option A → Option A → Option A
  or_else (some a) o = some a
  or_else none o = o

  -- What f gives at the first of a, a + 1, …, a + n − 1 at which it gives something. (The rest is bound by a `let`
  -- so that it is computed only where it is wanted: a range may have millions of numbers.)
  unfoldable pub first_of : (ℕ → Option A) → ℕ → ℕ → Option A
  first_of f zero a = none
  first_of f (suc n) a = let rest = first_of f n (suc a) in or_else (f a) rest

  -- The list f 0, f 1, …, f (n − 1).
  unfoldable pub up_to : (ℕ → A) → ℕ → List A
  up_to f zero = []
  up_to f (suc n) = up_to f n ++ (f n ∷ [])

  -- The lists f 0, f 1, …, f (n − 1), joined.
  unfoldable pub join_to : (ℕ → List A) → ℕ → List A
  join_to f zero = []
  join_to f (suc n) = join_to f n ++ f n

  -- The list of all, filled up with d to a length of `most`.
  unfoldable pub padded : (ℕ → A) → A → ℕ → ℕ → List A
  padded f d most n = up_to f n ++ replicate (most - n) d

-- The number itself where it passes the test.
abbrev pub such : (ℕ → Bool) → ℕ → Option ℕ
such p x = cond (p x) (some x) none

-- The first of a, a + 1, …, a + n − 1 that passes the test; none where none does.
unfoldable pub first_such : (ℕ → Bool) → ℕ → ℕ → Option ℕ
first_such p n a = first_of (such p) n a

-- The first of 0, 1, …, n − 1 at which f is at its largest; none where the range is empty.
unfoldable pub first_largest : (ℕ → ℕ) → ℕ → Option ℕ
first_largest f n = first_such (λ i. eqb (f i) (largest_to f n)) n 0
