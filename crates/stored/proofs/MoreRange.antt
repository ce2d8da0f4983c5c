-- One more law of "the first in a range that …": two searches agree that agree wherever the first has found nothing
-- before. Assumes nothing.
use Prim.Native.Nat.{ℕ, zero, suc, ◌+◌, ◌≤◌, ◌<◌}
use native.Mathlib.Nat.{eq-or-lt_of_le}
use native.Mathlib.Omega.{arith}
use mathlib.Core.Path.{◌≡◌, refl}
use mathlib.Core.Logic.{⊎_elim}
use mathlib.Core.Option.{Option, none, some}
use Rattle.lists.specs.Range.{first_of, or_else}

pub first_of_until : {A : Type 0} (f g : ℕ → Option A) (n a : ℕ) → ((y : ℕ) → a ≤ y → y < a + n → ((z : ℕ) → a ≤ z → z < y → f z ≡ none) → f y ≡ g y) → first_of f n a ≡ first_of g n a
unfolding first_of
first_of_until f g zero a h = refl
first_of_until {A} f g (suc n) a h = go (f a) refl (λ later. first_of_until f g n (suc a) later)
  where
    here : f a ≡ g a
    here = h a (omega arith) (omega arith) (λ z l u. absurd (omega arith))

    go : (o : Option A) → f a ≡ o → (((y : ℕ) → suc a ≤ y → y < suc a + n → ((z : ℕ) → suc a ≤ z → z < y → f z ≡ none) → f y ≡ g y) → first_of f n (suc a) ≡ first_of g n (suc a)) → or_else (f a) (first_of f n (suc a)) ≡ or_else (g a) (first_of g n (suc a))
    go (some v) e rest = rw (← here, e) refl
    go none e rest =
        rw (← here, e)
        (rest
        (λ y l u before.
        h y (omega arith) (omega arith)
        (λ z k v. ⊎_elim (λ (q : a ≡ z). rw (← q) e) (λ (q : a < z). before z q v) (eq-or-lt_of_le k))))
