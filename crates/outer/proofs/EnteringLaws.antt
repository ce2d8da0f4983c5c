-- Which resources lead when there is one more: the resource that decides at its ceiling so far stays, or it takes its place.
-- Assumes nothing.
use Prim.Native.Nat.{ℕ, suc, ◌+◌, ◌-◌, ◌≤◌, ◌<◌}
use native.Mathlib.Numerals.{add-one}
use native.Mathlib.Omega.{arith}
use mathlib.Core.Path.{◌≡◌, refl, sym, ap, ap₂, ◌∙◌}
use mathlib.Core.Bool.{Bool, true, false, cond, true≢false}
use mathlib.Core.List.{List, [], ◌∷◌, ◌++◌, append_assoc}
use mathlib.Core.Logic.{⊎_elim}
use lib.Dec.{eqb}
use lib.ListN.{get_or, set, replicate}
use borrow.Author.Tests.{eq-eqb, ne_eqb, lt-ltb, le-ltb}
use Rattle.lists.proofs.Over.{le_or_lt, same_or_not}
use Rattle.lists.proofs.Put.{padded_put}
use Rattle.lists.specs.Range.{up_to, padded}
use Rattle.lists.proofs.UpTo.{up_to_ext, padded_ext, get_d_padded, padded_turn}
use Rattle.outer.specs.Leading.{beats, beaten_by, led}
use Rattle.outer.proofs.LeadingLaws.{leads_or_not, led_none, leads, led_beaten, beaten_or_not, leader_of}

module _ (f g : ℕ → ℕ) (d most n : ℕ) where
  -- One more slot that is as the padding.
  padded_same : n < most → ((k : ℕ) → k < n → f k ≡ g k) → g n ≡ d → padded f d most n ≡ padded g d most (n + 1)
  unfolding padded up_to
  padded_same u h e =
      let q : most - n ≡ suc (most - suc n) = omega arith in
      rw (q, add-one, e)
      (ap (λ (xs : List ℕ). xs ++ d ∷ replicate (most - suc n) d) (up_to_ext f g n h) ∙
      sym (append_assoc (up_to g n) (d ∷ []) (replicate (most - suc n) d)))

module _ (h c : ℕ → ℕ) where
  -- What a later resource l does to k.
  beats_not : (k l : ℕ) → k ≤ l → h l ≤ h k → beaten_by h c k l ≡ false
  unfolding beaten_by beats
  beats_not k l u q = rw (le-ltb (h k) (h l) q, le-ltb l k u) (none (eqb (c l) (c k)) (eqb (h k) (h l)))
    where
      none : (a b : Bool) → cond a (cond b false false) false ≡ false
      none true true = refl
      none true false = refl
      none false b = refl

  beats_less : (k l : ℕ) → c l ≡ c k → h k < h l → beaten_by h c k l ≡ true
  unfolding beaten_by beats
  beats_less k l e q = rw (eq-eqb (c l) (c k) e, lt-ltb (h k) (h l) q) refl

  beats_later : (k j : ℕ) → c j ≡ c k → h k ≤ h j → j < k → beaten_by h c k j ≡ true
  unfolding beaten_by beats
  beats_later k j e q u =
      ⊎_elim (λ (s : h k ≡ h j). rw (eq-eqb (c j) (c k) e, le-ltb (h k) (h j) (omega arith), eq-eqb (h k) (h j) s, lt-ltb j k u) refl)
      (λ (s : h k ≡ h j → ⊥). beats_less k j e (omega arith)) (same_or_not (h k) (h j))

  -- Another ceiling does not matter.
  beats_elsewhere : (k l : ℕ) → (c l ≡ c k → ⊥) → beaten_by h c k l ≡ false
  unfolding beaten_by beats
  beats_elsewhere k l e = rw (ne_eqb (c l) (c k) e) refl

  beats_same : (k l : ℕ) → beaten_by h c k l ≡ true → c l ≡ c k
  beats_same k l b =
      ⊎_elim (λ (e : c l ≡ c k). e) (λ (n : c l ≡ c k → ⊥). absurd (true≢false (sym b ∙ beats_elsewhere k l n))) (same_or_not (c l) (c k))

  -- Nor does one that is held less.
  beats_lower : (l k : ℕ) → h k < h l → beaten_by h c l k ≡ false
  unfolding beaten_by beats
  beats_lower l k q =
      rw (le-ltb (h l) (h k) (omega arith), ne_eqb (h l) (h k) (λ (s : h l ≡ h k). omega arith)) (none (eqb (c k) (c l)))
    where
      none : (a : Bool) → cond a false false ≡ false
      none true = refl
      none false = refl

  -- l leads where all before it with its ceiling are held less.
  leads_all : (l : ℕ) → ((k : ℕ) → k < l → c k ≡ c l → h k < h l) → led h c (l + 1) l ≡ h l
  leads_all l less =
      leads h c (l + 1) l
      (λ k q.
      ⊎_elim (λ (u : l ≤ k). let s : k ≡ l = omega arith in rw s (beats_not l l (omega arith) (omega arith)))
      (λ (u : k < l).
      ⊎_elim (λ (e : c k ≡ c l). beats_lower l k (less k u e)) (λ (n : c k ≡ c l → ⊥). beats_elsewhere l k n)
      (same_or_not (c k) (c l)))
      (le_or_lt l k))

  module _ (l : ℕ) where
    -- One that l does not beat, or that counts nothing, counts as before.
    stays : (k : ℕ) → (beaten_by h c k l ≡ true → led h c l k ≡ 0) → led h c l k ≡ led h c (l + 1) k
    stays k z = go (beaten_by h c k l) refl
      where
        go : (b : Bool) → beaten_by h c k l ≡ b → led h c l k ≡ led h c (l + 1) k
        go true e = z e ∙ sym (led_beaten h c (l + 1) k l (omega arith) e)
        go false e =
            ⊎_elim
            (λ (b : (j : ℕ) × (j < l) × (beaten_by h c k j ≡ true)).
            led_beaten h c l k b.0 b.1 b.2 ∙ sym (led_beaten h c (l + 1) k b.0 (omega (arith, b.1)) b.2))
            (λ (n : (j : ℕ) → j < l → beaten_by h c k j ≡ false).
            leads h c l k n ∙
            sym (leads h c (l + 1) k
            (λ j q.
            ⊎_elim (λ (u : l ≤ j). let s : j ≡ l = omega arith in rw s e) (λ (u : j < l). n j u) (le_or_lt l j))))
            (beaten_or_not h c l k)

    -- A resource j before l that decides at its ceiling so far.
    module _ (j : ℕ) (u : j < l) (e : c j ≡ c l) (pos : 0 < led h c l j) where
      its_own : led h c l j ≡ h j
      its_own = ⊎_elim (λ (q : led h c l j ≡ h j). q) (λ (q : led h c l j ≡ 0). absurd (omega arith)) (leads_or_not h c l j)

      none_beats : (k : ℕ) → k < l → beaten_by h c j k ≡ true → ⊥
      none_beats k q b = omega (arith, led_beaten h c l j k q b)

      longest_so_far : (k : ℕ) → k < l → c k ≡ c l → h k ≤ h j
      longest_so_far k q s =
          ⊎_elim (λ (a : h k ≤ h j). a) (λ (a : h j < h k). absurd (none_beats k q (beats_less j k (s ∙ sym e) a))) (le_or_lt (h k) (h j))

      others : (k : ℕ) → k < l → c k ≡ c l → (k ≡ j → ⊥) → led h c l k ≡ 0
      others k q s n =
          ⊎_elim
          (λ (a : j ≤ k).
          led_beaten h c l k j u (beats_later k j (e ∙ sym s) (longest_so_far k q s) (omega arith)))
          (λ (a : k < j).
          ⊎_elim (λ (b : h j ≤ h k). absurd (none_beats k q (beats_later j k (s ∙ sym e) b a)))
          (λ (b : h k < h j). led_beaten h c l k j u (beats_less k j (e ∙ sym s) b))
          (le_or_lt (h j) (h k)))
          (le_or_lt j k)

      -- It is held as long, or longer.
      behind : (most : ℕ) → l < most → h l ≤ h j → padded (led h c l) 0 most l ≡ padded (led h c (l + 1)) 0 most (l + 1)
      behind most v q =
          padded_same (led h c l) (led h c (l + 1)) 0 most l v
          (λ k a.
          stays k
          (λ b.
          ⊎_elim
          (λ (s : k ≡ j).
          absurd (true≢false (sym b ∙ rw s (beats_not j l (omega arith) q))))
          (λ (s : k ≡ j → ⊥). others k a (sym (beats_same k l b)) s) (same_or_not k j)))
          (led_beaten h c (l + 1) l j (omega arith) (beats_later l j e q u))

      -- It is held less.
      instead : (most : ℕ) → l < most → h j < h l → set (set (padded (led h c l) 0 most l) j 0) l (h l) ≡ padded (led h c (l + 1)) 0 most (l + 1)
      instead most v q =
          padded_turn (led h c (l + 1)) 0 most l v _ (h l)
          (padded_put (led h c l) (led h c (l + 1)) 0 most l j 0 u
          (led_beaten h c (l + 1) j l (omega arith) (beats_less j l (sym e) q))
          (λ k a s. stays k (λ b. others k a (sym (beats_same k l b)) s)))
          (sym (leads_all l (λ k a s. omega (arith, longest_so_far k a s))))

module _ (c : ℕ → ℕ) (l : ℕ) (xs : List ℕ) where
  -- None of the first j has the ceiling of l and counts.
  unfoldable pub NoRival : ℕ → Type 0
  NoRival j = (k : ℕ) → k < j → c k ≡ c l → get_or xs k 0 ≡ 0

  pub no_rival_zero : NoRival 0
  unfolding NoRival
  no_rival_zero k q s = absurd (omega arith)

  pub no_rival_next : (j : ℕ) → (c j ≡ c l → get_or xs j 0 ≡ 0) → NoRival j → NoRival (j + 1)
  unfolding NoRival
  no_rival_next j z n k q s =
      ⊎_elim (λ (a : j ≤ k). let same : k ≡ j = omega arith in rw same (z (rw (← same) s))) (λ (a : k < j). n k a s) (le_or_lt j k)

-- The same of an array that holds what counts so far.
module _ (h c : ℕ → ℕ) (most l : ℕ) (xs : List ℕ) (x : ℕ) (u : l < most) (e : xs ≡ padded (led h c l) 0 most l) (held : x ≡ h l) where
  read_so_far : (j : ℕ) → j < l → get_or xs j 0 ≡ led h c l j
  read_so_far j q = ap (λ (d : List ℕ). get_or d j 0) e ∙ get_d_padded (led h c l) 0 0 most l j q

  -- Not held.
  pub entered_none : x ≡ 0 → xs ≡ padded (led h c (l + 1)) 0 most (l + 1)
  entered_none z =
      let zero : h l ≡ 0 = sym held ∙ z in
      e ∙
      padded_same (led h c l) (led h c (l + 1)) 0 most l u
      (λ k q. stays h c l k (λ b. absurd (true≢false (sym b ∙ beats_not h c k l (omega arith) (omega arith)))))
      (sym (led_none h c (l + 1) l zero))

  -- Behind the one that decides so far, and instead of it.
  pub entered_behind : (j : ℕ) → j < l → c j ≡ c l → (get_or xs j 0 ≡ 0 → ⊥) → x ≤ get_or xs j 0 → xs ≡ padded (led h c (l + 1)) 0 most (l + 1)
  entered_behind j q s p less =
      let pos : 0 < led h c l j = omega (arith, read_so_far j q) in
      e ∙ behind h c l j q s pos most u (omega (arith, read_so_far j q, its_own h c l j q s pos))

  pub entered_instead : (j : ℕ) → j < l → c j ≡ c l → (get_or xs j 0 ≡ 0 → ⊥) → get_or xs j 0 < x → set (set xs j 0) l x ≡ padded (led h c (l + 1)) 0 most (l + 1)
  entered_instead j q s p less =
      let pos : 0 < led h c l j = omega (arith, read_so_far j q) in
      ap₂ (λ (d : List ℕ) (y : ℕ). set (set d j 0) l y) e held ∙
      instead h c l j q s pos most u (omega (arith, read_so_far j q, its_own h c l j q s pos))

  -- The first to be held at its ceiling.
  pub entered_first : (x ≡ 0 → ⊥) → (j : ℕ) → l ≤ j → NoRival c l xs j → set xs l x ≡ padded (led h c (l + 1)) 0 most (l + 1)
  unfolding NoRival
  entered_first p j q n =
      padded_turn (led h c (l + 1)) 0 most l u xs x
      (e ∙ padded_ext (led h c l) (led h c (l + 1)) 0 most l (λ k a. stays h c l k (λ b. none k a (sym (beats_same h c k l b)))))
      (held ∙ sym (leads_all h c l less))
    where
      none : (k : ℕ) → k < l → c k ≡ c l → led h c l k ≡ 0
      none k a s = sym (read_so_far k a) ∙ n k (omega arith) s

      less : (k : ℕ) → k < l → c k ≡ c l → h k < h l
      less k a s =
          ⊎_elim (λ (z : h k ≤ 0). omega arith)
          (λ (pos : 0 < h k).
          let j = leader_of h c l k a pos in
          absurd (⊎_elim (λ (o : h k < h j.0). omega (arith, none j.0 j.1 (j.2 ∙ s), j.3)) (λ (o : (h k ≡ h j.0) × (j.0 ≤ k)). omega (arith, none j.0 j.1 (j.2 ∙ s), j.3, o.0)) j.4))
          (le_or_lt (h k) 0)
