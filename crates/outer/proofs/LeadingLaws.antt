-- Which resources lead, and that every resource has one that leads it. Assumes nothing.
use Prim.Native.Nat.{ℕ, ◌≤◌, ◌<◌}
use native.Mathlib.Omega.{arith}
use mathlib.Core.Path.{◌≡◌, refl, sym, ap, ◌∙◌}
use mathlib.Core.Bool.{Bool, true, false, cond, true≢false}
use mathlib.Core.Option.{Option, none, some}
use mathlib.Core.Logic.{◌⊎◌, inl, inr, ⊎_elim}
use lib.Dec.{eqb, ltb}
use borrow.Author.Tests.{eq-eqb, ne_eqb, eqb-true, eqb-false, le-ltb}
use Rattle.lists.proofs.Over.{le_or_lt, same_or_not, below_largest}
use Rattle.lists.proofs.Largest.{at_largest, first_largest_lem}
use Rattle.lists.specs.Range.{largest_to, first_such}
use Rattle.lists.proofs.First.{first_such_nowhere, first_such_none, first_such_means, IsFirstSuch}
use Rattle.outer.specs.Leading.{beats, beaten_by, unbeaten, led}

module _ (h c : ℕ → ℕ) (m l : ℕ) where
  -- A resource leads, or counts as not held.
  pub leads_or_not : (led h c m l ≡ h l) ⊎ (led h c m l ≡ 0)
  unfolding led
  leads_or_not = go (first_such (beaten_by h c l) m 0)
    where
      go : (o : Option ℕ) → (unbeaten (h l) o ≡ h l) ⊎ (unbeaten (h l) o ≡ 0)
      go none = inl refl
      go (some j) = inr refl

  -- Where nothing is held there is nothing to lead.
  pub led_none : h l ≡ 0 → 0 ≡ led h c m l
  led_none e = ⊎_elim (λ (q : led h c m l ≡ h l). sym (q ∙ e)) (λ (q : led h c m l ≡ 0). sym q) leads_or_not

  -- Where nothing beats it, it leads.
  pub leads : ((j : ℕ) → j < m → beaten_by h c l j ≡ false) → led h c m l ≡ h l
  unfolding led
  leads u = ap (unbeaten (h l)) (first_such_nowhere (beaten_by h c l) m 0 (λ j a b. u j (omega arith)))

  -- Where one beats it, it does not.
  pub led_beaten : (j : ℕ) → j < m → beaten_by h c l j ≡ true → led h c m l ≡ 0
  unfolding led
  led_beaten j u b = go (first_such (beaten_by h c l) m 0) refl
    where
      go : (o : Option ℕ) → first_such (beaten_by h c l) m 0 ≡ o → unbeaten (h l) o ≡ 0
      go (some k) e = refl
      go none e = absurd (true≢false (sym b ∙ first_such_none (beaten_by h c l) m 0 e j (omega arith) (omega arith)))

  -- It is beaten by one, or by none.
  pub beaten_or_not : ((j : ℕ) × (j < m) × (beaten_by h c l j ≡ true)) ⊎ ((j : ℕ) → j < m → beaten_by h c l j ≡ false)
  beaten_or_not = go (first_such (beaten_by h c l) m 0) refl
    where
      go : (o : Option ℕ) → first_such (beaten_by h c l) m 0 ≡ o → ((j : ℕ) × (j < m) × (beaten_by h c l j ≡ true)) ⊎ ((j : ℕ) → j < m → beaten_by h c l j ≡ false)
      go (some k) e =
          let i = first_such_means (beaten_by h c l) m 0 k e in
          inl (k, omega (arith, i.within), i.passes)
      go none e = inr (λ j u. first_such_none (beaten_by h c l) m 0 e j (omega arith) (omega arith))

module _ (h c : ℕ → ℕ) (m : ℕ) where
  -- The holding times of the resources with ceiling r.
  group : ℕ → ℕ → ℕ
  group r x = cond (eqb (c x) r) (h x) 0

  group_in : (r x : ℕ) → c x ≡ r → group r x ≡ h x
  unfolding group
  group_in r x e = rw (eq-eqb (c x) r e) refl

  group_out : (r x : ℕ) → 0 < group r x → c x ≡ r
  unfolding group
  group_out r x u = go (eqb (c x) r) refl u
    where
      go : (b : Bool) → eqb (c x) r ≡ b → 0 < cond b (h x) 0 → c x ≡ r
      go true e q = eqb-true (c x) r e
      go false e q = absurd (omega arith)

  -- The first of a group that is held longest leads.
  first_leads : (r x : ℕ) → 0 < largest_to (group r) m → IsFirstSuch (at_largest (group r) m) m 0 x → led h c m x ≡ h x
  unfolding beaten_by beats
  first_leads r x pos i =
      leads h c m x
      (λ j u.
      ⊎_elim (λ (e : c j ≡ c x). beaten_not j u e)
      (λ (n : c j ≡ c x → ⊥). rw (ne_eqb (c j) (c x) n) refl)
      (same_or_not (c j) (c x)))
    where
      top : group r x ≡ largest_to (group r) m
      top = eqb-true _ _ i.passes

      mine : c x ≡ r
      mine = group_out r x (omega (arith, top))

      longest : h x ≡ largest_to (group r) m
      longest = sym (group_in r x mine) ∙ top

      beaten_not : (j : ℕ) → j < m → c j ≡ c x → cond (eqb (c j) (c x)) (cond (ltb (h x) (h j)) true (cond (eqb (h x) (h j)) (ltb j x) false)) false ≡ false
      beaten_not j u e =
          let here : group r j ≡ h j = group_in r j (e ∙ mine) in
          let no_longer : h j ≤ h x = omega (arith, below_largest (group r) m j u, longest, here) in
          rw (eq-eqb (c j) (c x) e, le-ltb (h x) (h j) no_longer)
          (⊎_elim
          (λ (q : h x ≡ h j).
          rw (eq-eqb (h x) (h j) q, le-ltb j x (no_lower j q here)) refl)
          (λ (n : h x ≡ h j → ⊥). rw (ne_eqb (h x) (h j) n) refl)
          (same_or_not (h x) (h j)))
        where
          no_lower : (j : ℕ) → h x ≡ h j → group r j ≡ h j → x ≤ j
          no_lower j q here =
              ⊎_elim (λ (u : x ≤ j). u)
              (λ (u : j < x). absurd (eqb-false _ _ (i.before j (omega arith) u) (here ∙ sym q ∙ longest)))
              (le_or_lt x j)

  -- Every resource that is held has one with its ceiling that leads: one held longer, or as long and no later.
  pub leader_of : (l : ℕ) → l < m → 0 < h l → (j : ℕ) × (j < m) × (c j ≡ c l) × (led h c m j ≡ h j) × ((h l < h j) ⊎ ((h l ≡ h j) × (j ≤ l)))
  leader_of l u pos =
      let r = c l in
      let f = first_largest_lem (group r) m (omega arith) in
      let j = f.0 in
      let i = f.1 in
      let here : group r l ≡ h l = group_in r l refl in
      let top : group r j ≡ largest_to (group r) m = eqb-true _ _ i.passes in
      let some_held : 0 < largest_to (group r) m = omega (arith, below_largest (group r) m l u) in
      let mine : c j ≡ r = group_out r j (omega arith) in
      let longest : group r j ≡ h j = group_in r j mine in
      let order : (h l < h j) ⊎ ((h l ≡ h j) × (j ≤ l)) =
      ⊎_elim (λ (q : h j ≤ h l). inr (same_held l j u i here top longest q)) (λ (q : h l < h j). inl q) (le_or_lt (h j) (h l)) in
      (j, omega (arith, i.within), mine, first_leads r j some_held i, order)
    where
      same_held : (l j : ℕ) → l < m → IsFirstSuch (at_largest (group (c l)) m) m 0 j → group (c l) l ≡ h l → group (c l) j ≡ largest_to (group (c l)) m → group (c l) j ≡ h j → h j ≤ h l → (h l ≡ h j) × (j ≤ l)
      same_held l j u i here top longest q =
          let e : h l ≡ h j = omega (arith, below_largest (group (c l)) m l u) in
          (e, ⊎_elim (λ (k : j ≤ l). k) (λ (k : l < j). absurd (eqb-false _ _ (i.before l (omega arith) k) (here ∙ e ∙ sym longest ∙ top))) (le_or_lt j l))
