-- Laws of outer ceilings: what a search for one may conclude at each subsystem, and where a ceiling lies. Assumes nothing.
use Prim.Native.Nat.{ℕ, ◌+◌, ◌-◌, ◌≤◌, ◌<◌}
use native.Mathlib.Nat.{sub-zero}
use native.Mathlib.Omega.{arith}
use mathlib.Core.Path.{◌≡◌, refl, sym, ap, ◌∙◌}
use mathlib.Core.List.{List}
use mathlib.Core.Option.{Option, none, some}
use mathlib.Core.Logic.{⊎_elim}
use lib.Dec.{ltb}
use Rattle.std.specs.Prelude.{MatchOption, None, Some}
use Rattle.std.specs.Option.{unwrap_or}
use borrow.Author.Tests.{lt-ltb, le-ltb, ltb-false}
use Rattle.lists.specs.Range.{first_such}
use Rattle.lists.proofs.First.{first_such_here, first_such_next, first_such_over, first_such_means, first_such_none, first_such_is, first_such_nowhere, first_such_ext}
use Rattle.lists.proofs.Over.{le_or_lt}
use Rattle.outer.specs.Interfaces.{InterfacesM, held_at, interfaces_in}
use Rattle.outer.specs.Parts.{count, holding_of}
use Rattle.outer.specs.Blocking.{number_or, accesses, outer_ceiling}
use Rattle.outer.specs.Blocked.{accesses_in, ceiling_in}
use Rattle.outer.proofs.Slots.{count_of, holding_of_slot}

-- What is left of the search for the lowest access to l when it stands at subsystem s.
abbrev pub left_from : List (List ℕ) → ℕ → ℕ → ℕ → Option ℕ
left_from lines n l s = first_such (accesses_in lines l) (n - s) s

module _ (lines : List (List ℕ)) (n l : ℕ) where
  by_search : {o : Option ℕ} → left_from lines n l 0 ≡ o → ceiling_in lines n l ≡ number_or (n - 1) o
  unfolding ceiling_in
  by_search {o} e =
      ap (λ (k : ℕ). number_or (n - 1) (first_such (accesses_in lines l) k 0)) (sym (sub-zero n)) ∙
      ap (number_or (n - 1)) e

  -- An access at s: that is the ceiling.
  pub ceiling_here : (s : ℕ) → s < n → {x : ℕ} → x ≡ held_at lines s l → 0 < x → left_from lines n l s ≡ left_from lines n l 0 → s ≡ ceiling_in lines n l
  unfolding accesses_in
  ceiling_here s h q u e =
      sym (by_search (sym e ∙ first_such_here (accesses_in lines l) n s h (lt-ltb 0 (held_at lines s l) (omega (arith, q)))))

  -- None at s: the search goes on.
  pub ceiling_next : (s : ℕ) → s < n → {x : ℕ} → x ≡ held_at lines s l → x ≤ 0 → left_from lines n l (s + 1) ≡ left_from lines n l s
  unfolding accesses_in
  ceiling_next s h q u = sym (first_such_next (accesses_in lines l) n s h (le-ltb 0 (held_at lines s l) (omega (arith, q))))

  -- None at all: the last.
  pub ceiling_over : (s : ℕ) → n ≤ s → left_from lines n l s ≡ left_from lines n l 0 → n - 1 ≡ ceiling_in lines n l
  ceiling_over s h e = sym (by_search (sym e ∙ first_such_over (accesses_in lines l) n s h))

  -- As `find` answers: the first that has an access, or the last line where none has.
  pub ceiling_found :
      (o : _) →
      MatchOption o ((k : ℕ) → 0 ≤ k → k < n → held_at lines k l ≤ 0) (λ i. (0 ≤ i) × (i < n) × (0 < held_at lines i l) × ((k : ℕ) → 0 ≤ k → k < i → held_at lines k l ≤ 0)) →
      unwrap_or o (n - 1) ≡ ceiling_in lines n l
  unfolding ceiling_in accesses_in
  ceiling_found None h =
      sym (ap (number_or (n - 1)) (first_such_nowhere (accesses_in lines l) n 0 (λ k a b. le-ltb 0 (held_at lines k l) (h k a (omega arith)))))
  ceiling_found (Some i) h =
      sym (ap (number_or (n - 1)) (first_such_is (accesses_in lines l) n 0 i (record {
        from = h.0;
        within = omega (arith, h.1);
        passes = lt-ltb 0 (held_at lines i l) h.2;
        before = λ k a b. le-ltb 0 (held_at lines k l) (h.3 k a b);
      })))

  -- It is one of the lines.
  pub ceiling_listed : 1 ≤ n → ceiling_in lines n l < n
  unfolding ceiling_in
  ceiling_listed least = go (first_such (accesses_in lines l) n 0) refl
    where
      go : (o : Option ℕ) → first_such (accesses_in lines l) n 0 ≡ o → number_or (n - 1) (first_such (accesses_in lines l) n 0) < n
      go (some x) e = rw e (omega (arith, (first_such_means (accesses_in lines l) n 0 x e).within))
      go none e = rw e (omega arith)

-- What the lines show is RC(l), for each resource in use.
pub ceiling_of_slots : (n m : ℕ) (lines : List (List ℕ)) (l : ℕ) → l < m → ceiling_in lines n l ≡ outer_ceiling (interfaces_in n m lines) l
unfolding ceiling_in outer_ceiling accesses_in accesses
ceiling_of_slots n m lines l h =
    ap (number_or (n - 1))
    (first_such_ext (accesses_in lines l) (accesses (interfaces_in n m lines) l) n 0
    (λ s a b. ap (ltb 0) (sym (holding_of_slot n m lines s l (omega arith) h)))) ∙
    ap (λ (k : ℕ). number_or (k - 1) (first_such (accesses (interfaces_in n m lines) l) k 0)) (sym (count_of n m lines))

-- The ceiling of a resource that subsystem s accesses is at or before s.
pub ceiling_at_most : (g : InterfacesM) (l s : ℕ) → s < count g → 0 < holding_of g s l → outer_ceiling g l ≤ s
unfolding outer_ceiling accesses
ceiling_at_most g l s h u = go (first_such (accesses g l) (count g) 0) refl
  where
    go : (o : Option ℕ) → first_such (accesses g l) (count g) 0 ≡ o → number_or (count g - 1) (first_such (accesses g l) (count g) 0) ≤ s
    go (some x) e =
        let i = first_such_means (accesses g l) (count g) 0 x e in
        rw e
        (⊎_elim (λ (q : x ≤ s). q)
        (λ (q : s < x). absurd (omega (arith, ltb-false 0 (holding_of g s l) (i.before s (omega arith) q))))
        (le_or_lt x s))
    go none e =
        absurd (omega (arith, ltb-false 0 (holding_of g s l) (first_such_none (accesses g l) (count g) 0 e s (omega arith) (omega arith))))
