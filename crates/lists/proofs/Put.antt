-- Arrays that are filled with what is padding anyway, and a slot that changes among those that are filled. Assumes nothing.
use Prim.Native.Nat.{ℕ, zero, suc, ◌-◌, ◌≤◌, ◌<◌}
use native.Mathlib.Numerals.{add-one}
use native.Mathlib.Omega.{arith}
use mathlib.Core.Path.{◌≡◌, sym, ap, ◌∙◌}
use mathlib.Core.List.{List, ◌++◌}
use mathlib.Core.Logic.{⊎_elim}
use lib.ListN.{get_or, set, replicate, length-set, get_or-replicate}
use lib.Seq.{set-get_or, ext_get_or, get_or-set_same, get_or-set_other, set-append_left}
use Rattle.lists.specs.Range.{up_to, padded}
use Rattle.lists.proofs.Over.{same_or_not}
use Rattle.lists.proofs.UpTo.{length_up_to, get_d_up_to, padded_none, padded_turn}

-- An array of nothing but padding.
pub all_padding : (f : ℕ → ℕ) (d most n : ℕ) → n ≤ most → ((k : ℕ) → k < n → f k ≡ d) → replicate most d ≡ padded f d most n
all_padding f d most zero u h = sym (padded_none f d most)
all_padding f d most (suc n) u h =
    let rest : replicate most d ≡ padded f d most n = all_padding f d most n (omega arith) (λ k q. h k (omega arith)) in
    rw (← add-one)
    (sym (set-get_or (replicate most d) n d) ∙ ap (set (replicate most d) n) (get_or-replicate most n d d (omega arith)) ∙
    padded_turn f d most n (omega arith) _ _ rest (sym (h n (omega arith))))

-- A slot takes another value.
pub padded_put :
    (f g : ℕ → ℕ) (d most n j y : ℕ) → j < n → g j ≡ y → ((k : ℕ) → k < n → (k ≡ j → ⊥) → f k ≡ g k) →
    set (padded f d most n) j y ≡ padded g d most n
unfolding padded
padded_put f g d most n j y u e h =
    set-append_left (up_to f n) (replicate (most - n) d) j y (omega (arith, length_up_to f n)) ∙
    ap (λ (xs : List ℕ). xs ++ replicate (most - n) d)
    (ext_get_or d (set (up_to f n) j y) (up_to g n)
    (length-set (up_to f n) j y ∙ length_up_to f n ∙ sym (length_up_to g n))
    (λ i q. slot i (omega (arith, q, length-set (up_to f n) j y, length_up_to f n))))
  where
    slot : (i : ℕ) → i < n → get_or (set (up_to f n) j y) i d ≡ get_or (up_to g n) i d
    slot i q =
        ⊎_elim
        (λ (s : i ≡ j).
        rw (s, get_or-set_same (up_to f n) j y d (omega (arith, length_up_to f n)), get_d_up_to g n j d u) (sym e))
        (λ (s : i ≡ j → ⊥).
        get_or-set_other (up_to f n) j i y d s ∙ get_d_up_to f n i d q ∙ h i q s ∙ sym (get_d_up_to g n i d q))
        (same_or_not i j)
