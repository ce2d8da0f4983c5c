-- What passing means, and the search for the moment at which a task passes: from each moment that will not do, the next
-- that might is known. Assumes nothing.
use Prim.Native.Nat.{ℕ, ◌+◌, ◌≤◌, ◌<◌, min}
use mathlib.Core.Path.{◌≡◌, refl, sym, ap, ◌∙◌}
use mathlib.Core.Bool.{true, false, true≢false, false≢true}
use mathlib.Core.Logic.{⊎_elim}
use mathlib.Core.List.{List}
use mathlib.Core.Option.{Option, none, some}
use native.Mathlib.Nat.{le_trans}
use native.Mathlib.Omega.{arith}
use lib.Dec.{leb}
use borrow.Author.Tests.{le-leb, lt-leb, leb-true}
use Rattle.lists.specs.Range.{first_such}
use Rattle.lists.proofs.First.{first_such_means, first_such_none, first_such_nowhere, first_such_ext}
use Rattle.lists.proofs.Over.{le_or_lt}
use Rattle.least.specs.Demand.{total}
use Rattle.supply.specs.Supply.{supply}
use Rattle.supply.specs.Moment.{moment_of}
use Rattle.supply.proofs.MomentLaws.{moment_is_first}
use Rattle.local.specs.Passing.{held_at, is_found, held_within}

------------------------------------------------------------------------
-- What "held within 1 .. D" means

module _ (needed : ℕ → ℕ) (P Q E : ℕ) where
  held_true : (x : ℕ) → needed x ≤ supply P Q E x → held_at needed P Q E x ≡ true
  unfolding held_at
  held_true x h = le-leb _ _ h

  held_false : (x : ℕ) → supply P Q E x < needed x → held_at needed P Q E x ≡ false
  unfolding held_at
  held_false x h = lt-leb _ _ h

  held_enough : (x : ℕ) → held_at needed P Q E x ≡ true → needed x ≤ supply P Q E x
  unfolding held_at
  held_enough x e = leb-true _ _ e

  -- None will do.
  pub held_nowhere : (D : ℕ) → ((x : ℕ) → 1 ≤ x → x ≤ D → supply P Q E x < needed x) → held_within needed P Q E D ≡ false
  unfolding held_within
  held_nowhere D h =
      let all-fail : (x : ℕ) → 1 ≤ x → x < 1 + D → held_at needed P Q E x ≡ false = λ x a b. held_false x (h x a (omega arith)) in
      rw first_such_nowhere refl

  -- A moment in 1 .. D that will do.
  pub held_here : (D x : ℕ) → 1 ≤ x → x ≤ D → needed x ≤ supply P Q E x → held_within needed P Q E D ≡ true
  unfolding held_within
  held_here D x a b h = go (first_such (held_at needed P Q E) D 1) refl
    where
      go : (o : Option ℕ) → first_such (held_at needed P Q E) D 1 ≡ o → is_found o ≡ true
      go (some y) e = refl
      go none e = absurd (true≢false (sym (held_true x h) ∙ first_such_none (held_at needed P Q E) D 1 e x a (omega arith)))

  -- Passing is that some moment will do.
  pub held_means : (D : ℕ) → held_within needed P Q E D ≡ true → (x : ℕ) × (1 ≤ x) × (x ≤ D) × (needed x ≤ supply P Q E x)
  unfolding held_within
  held_means D = go (first_such (held_at needed P Q E) D 1) refl
    where
      go : (o : Option ℕ) → first_such (held_at needed P Q E) D 1 ≡ o → is_found o ≡ true → (x : ℕ) × (1 ≤ x) × (x ≤ D) × (needed x ≤ supply P Q E x)
      go none e f = absurd (false≢true f)
      go (some x) e f =
          let first = first_such_means (held_at needed P Q E) D 1 x e in
          (x, first.from, omega (arith, first.within), held_enough x first.passes)

-- Only the need itself matters.
pub held_ext : (f g : ℕ → ℕ) (P Q E D : ℕ) → ((x : ℕ) → f x ≡ g x) → held_within f P Q E D ≡ held_within g P Q E D
unfolding held_within held_at
held_ext f g P Q E D h =
    ap is_found (first_such_ext (held_at f P Q E) (held_at g P Q E) D 1 (λ y a b. ap (λ (n : ℕ). leb n (supply P Q E y)) (h y)))

------------------------------------------------------------------------
-- The search

-- The search may stand at x: no moment before x will do.
pub record Stands (needed : ℕ → ℕ) (P Q E x : ℕ) : Type 0 where
  pub from : 1 ≤ x
  pub before : (y : ℕ) → 1 ≤ y → y < x → supply P Q E y < needed y

module _ (needed : ℕ → ℕ) (P Q E : ℕ) where
  pub stands_first : (x : ℕ) → x ≡ 1 → Stands needed P Q E x
  stands_first x e = record { from = omega arith; before = λ y a b. absurd (omega arith) }

  -- Beyond D none in 1 .. D will do.
  pub stands_beyond : (D x : ℕ) → Stands needed P Q E x → D < x → held_within needed P Q E D ≡ false
  stands_beyond D x s h = held_nowhere needed P Q E D (λ y a b. s.before y a (omega arith))

  module _ (pos : 1 ≤ Q) (qe : Q ≤ E) (ep : E ≤ P) (rises : (x y : ℕ) → x ≤ y → needed x ≤ needed y) where
    -- Where the need at x is at least 1, nothing before the moment at which the supply reaches it will do.
    pub stands_at_moment : (x z : ℕ) → 1 ≤ needed x → Stands needed P Q E x → x ≤ z → z ≤ moment_of P Q E (needed x) → Stands needed P Q E z
    stands_at_moment x z one s h l = record { from = le_trans s.from h; before = before }
      where
        later : (y : ℕ) → x ≤ y → y < z → supply P Q E y < needed y
        later y a b =
            ⊎_elim
            (λ (enough : needed x ≤ supply P Q E y). absurd (omega (arith, (moment_is_first P Q E pos qe ep (needed x) one y).0 enough)))
            (λ (short : supply P Q E y < needed x). le_trans short (rises x y a))
            (le_or_lt (needed x) (supply P Q E y))

        before : (y : ℕ) → 1 ≤ y → y < z → supply P Q E y < needed y
        before y a b = ⊎_elim (λ (h : x ≤ y). later y h b) (λ (h : y < x). s.before y a h) (le_or_lt x y)

    -- At the moment itself and after it, the need at x is held.
    pub held_at_moment : (D x : ℕ) → 1 ≤ x → x ≤ D → 1 ≤ needed x → moment_of P Q E (needed x) ≤ x → held_within needed P Q E D ≡ true
    held_at_moment D x a b one h = held_here needed P Q E D x a b ((moment_is_first P Q E pos qe ep (needed x) one x).1 h)

    -- A turn at x, in 1 .. D: the need there names the next moment that might do, or one past D.
    module _ (D x n next : ℕ) (is : n ≡ needed x) (one : 1 ≤ n) (named : next ≡ min (moment_of P Q E n) (D + 1)) (s : Stands needed P Q E x) (within : x ≤ D) where
      pub search_found : next ≤ x → true ≡ held_within needed P Q E D
      search_found h =
          sym (held_at_moment D x s.from within (omega arith) (omega (arith, ap (moment_of P Q E) is)))

      pub search_next : x < next → Stands needed P Q E next
      search_next h = stands_at_moment x next (omega arith) s (omega arith) (omega (arith, ap (moment_of P Q E) is))

-- A need with a constant part of at least 1 is at least 1.
pub total_positive : (periods costs : List ℕ) (n constant x : ℕ) → 1 ≤ constant → 1 ≤ total periods costs n constant x
unfolding total
total_positive periods costs n constant x h = omega arith
