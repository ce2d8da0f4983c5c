-- Holding times task by task: what one more task makes of a resource and of the arrays, and that all tasks together make the
-- holding times. Assumes nothing.
use Prim.Native.Nat.{ℕ, zero, suc, ◌+◌, ◌-◌, ◌≤◌, ◌<◌, max}
use native.Mathlib.Numerals.{add-one}
use native.Mathlib.Omega.{arith}
use mathlib.Core.Path.{◌≡◌, refl, sym, ap, ◌∙◌}
use mathlib.Core.Bool.{cond}
use mathlib.Core.List.{List}
use mathlib.Core.Logic.{inl, inr, ⊎_elim}
use lib.Dec.{eqb}
use lib.ListN.{length, get_or, set, replicate, length-set, length-replicate, get_or-replicate, get_or-eq_default}
use lib.Seq.{ext_get_or, get_or-set_same, get_or-set_other, get_or-append-add}
use borrow.Author.Tests.{eq-eqb, ne_eqb}
use Rattle.lists.specs.Range.{sum_to, largest_to, up_to, padded}
use Rattle.lists.proofs.Over.{le_or_lt, same_or_not, largest_to_zero, largest_to_suc, largest_to_ext, below_largest, largest_at_most}
use Rattle.lists.proofs.UpTo.{length_up_to, length_padded, get_d_padded}
use Rattle.table.specs.Limits.{most}
use Rattle.table.specs.Grid.{count_in, work_in, access_in, subsystem_in}
use Rattle.holding.specs.Holding.{work_above, resource_holding, holding}
use Rattle.holding.specs.Held.{access_to, slot_of, HeldSoFar, HeldUpTo}
use Rattle.holding.proofs.HoldingLaws.{CeilingFrom, ceiling_from_zero, ceiling_next, ceiling_here, work_above_is, nothing_held, something_held, holding_is}

-- Past the last, all is padding.
get_d_past : (f : ℕ → ℕ) (d n size k : ℕ) → n ≤ k → k < size → get_or (padded f d size n) k d ≡ d
unfolding padded
get_d_past f d n size k a b =
    let e : k ≡ length (up_to f n) + (k - n) = omega (arith, length_up_to f n) in
    ap (λ (i : ℕ). get_or (padded f d size n) i d) e ∙
    get_or-append-add (up_to f n) (replicate (size - n) d) (k - n) d ∙
    get_or-replicate (size - n) (k - n) d d (omega arith)

-- A slot that is raised raises the largest.
module _ (xs : List ℕ) (m l x y : ℕ) (room : l < length xs) (listed : l < m) (e : x ≡ max (slot_of xs l) y) where
  raised_here : slot_of (set xs l x) l ≡ x
  raised_here = get_or-set_same xs l x 0 room

  raised_else : (k : ℕ) → (k ≡ l → ⊥) → slot_of (set xs l x) k ≡ slot_of xs k
  raised_else k n = get_or-set_other xs l k x 0 n

  raised_most : (k : ℕ) → k < m → slot_of (set xs l x) k ≤ max (largest_to (slot_of xs) m) y
  raised_most k q =
      ⊎_elim (λ (s : k ≡ l). rw s (omega (arith, raised_here, e, below_largest (slot_of xs) m l listed)))
      (λ (n : k ≡ l → ⊥). omega (arith, raised_else k n, below_largest (slot_of xs) m k q)) (same_or_not k l)

  raised_least : (k : ℕ) → k < m → slot_of xs k ≤ largest_to (slot_of (set xs l x)) m
  raised_least k q =
      ⊎_elim (λ (s : k ≡ l). rw s (omega (arith, raised_here, e, below_largest (slot_of (set xs l x)) m l listed)))
      (λ (n : k ≡ l → ⊥). omega (arith, raised_else k n, below_largest (slot_of (set xs l x)) m k q)) (same_or_not k l)

  largest_raised : (b r : ℕ) → b ≡ largest_to (slot_of xs) m → r ≡ max b y → r ≡ largest_to (slot_of (set xs l x)) m
  largest_raised b r f g =
      let below = largest_at_most (slot_of (set xs l x)) m (max (largest_to (slot_of xs) m) y) raised_most in
      let above = largest_at_most (slot_of xs) m (largest_to (slot_of (set xs l x)) m) raised_least in
      omega (arith, f, g, below, above, raised_here, e, below_largest (slot_of (set xs l x)) m l listed)

module _ (block : List (List ℕ)) (l : ℕ) where
  -- No access among the first i tasks: the search for the ceiling stands at i.
  ceiling_from : (i : ℕ) → i ≤ count_in block → largest_to (access_to block l) i ≡ 0 → CeilingFrom block l i
  ceiling_from zero h z = ceiling_from_zero block l
  ceiling_from (suc i) h z =
      let both : largest_to (access_to block l) (i + 1) ≡ 0 = rw add-one z in
      let step = largest_to_suc (access_to block l) i in
      rw (← add-one)
      (ceiling_next block l i (access_in block i l) (omega arith) refl (omega (arith, both, step))
      (ceiling_from i (omega arith) (omega (arith, both, step))))

  module _ (m i x above : ℕ) (c : ℕ) (access : c ≡ access_in block i l) where
    -- A task without an access.
    so_far_without : c ≡ 0 → HeldSoFar block m i l x above → HeldSoFar block m (i + 1) l x above
    unfolding HeldSoFar
    so_far_without z =
        let same : largest_to (access_to block l) (i + 1) ≡ largest_to (access_to block l) i = omega (arith, largest_to_suc (access_to block l) i, access) in
        λ s. rw same s

    -- A task with one.
    so_far_with :
        l < m → i < count_in block → 0 < c → (before top y : ℕ) → before ≡ sum_to (work_in block) i →
        top ≡ cond (eqb x 0) before above → y ≡ max x (top + c) → HeldSoFar block m i l x above → HeldSoFar block m (i + 1) l y top
    unfolding HeldSoFar
    so_far_with k h pos before top y f t e =
        ⊎_elim
        (λ (s : (x ≡ 0) × (largest_to (access_to block l) i ≡ 0)).
        let first : top ≡ before = t ∙ rw (eq-eqb x 0 s.0) refl in
        let ceiling = ceiling_here block l m k i c h access pos (ceiling_from i (omega arith) s.1) in
        let longest : largest_to (access_to block l) (i + 1) ≡ c = omega (arith, step, access, s.1) in
        inr (omega arith, omega (arith, e, s.0, longest), first ∙ work_above_is block l m k (omega arith) before i ceiling f))
        (λ (s : (0 < largest_to (access_to block l) i) × (x ≡ largest_to (access_to block l) i + above) × (above ≡ work_above (subsystem_in m block) l)).
        let more : top ≡ above = t ∙ rw (ne_eqb x 0 (λ (z : x ≡ 0). omega (arith, s.0, s.1))) refl in
        inr (omega (arith, step, s.0), omega (arith, e, s.1, more, step, access), more ∙ s.2))
      where
        step : largest_to (access_to block l) (i + 1) ≡ max (largest_to (access_to block l) i) (access_in block i l)
        step = largest_to_suc (access_to block l) i

  -- All tasks: the holding time.
  so_far_all : (m x above : ℕ) → l < m → HeldSoFar block m (count_in block) l x above → x ≡ resource_holding (subsystem_in m block) l
  unfolding HeldSoFar
  so_far_all m x above k =
      ⊎_elim
      (λ (s : (x ≡ 0) × (largest_to (access_to block l) (count_in block) ≡ 0)).
      s.0 ∙ nothing_held block l m k (largest_to (access_to block l) (count_in block)) refl s.1)
      (λ (s : (0 < largest_to (access_to block l) (count_in block)) × (x ≡ largest_to (access_to block l) (count_in block) + above) × (above ≡ work_above (subsystem_in m block) l)).
      s.1 ∙
      something_held block l m k (largest_to (access_to block l) (count_in block)) above refl
      (λ (z : largest_to (access_to block l) (count_in block) ≡ 0). omega (arith, s.0)) s.2)

-- The arrays before the first task.
pub up_to_none : (block : List (List ℕ)) (m : ℕ) → HeldUpTo block m 0 0 (replicate most 0) (replicate most 0) 0
unfolding HeldSoFar
up_to_none block m =
    record {
      each_size = length-replicate {A = ℕ} most 0;
      above_size = length-replicate {A = ℕ} most 0;
      joined = λ k q. absurd (omega arith);
      others = λ k a b. inl (zeros k, largest_to_zero (access_to block k));
      behind = λ k a b. zeros k;
      above_fits = λ k q. omega (arith, zeros k);
      largest_is = omega (arith, largest_at_most (slot_of (replicate most 0)) m 0 (λ k q. omega (arith, zeros k)));
      largest_fits = omega arith;
    }
  where
    zeros : (k : ℕ) → slot_of (replicate most 0) k ≡ 0
    zeros k =
        ⊎_elim (λ (a : most ≤ k). get_or-eq_default {A = ℕ} (replicate most 0) 0 {n = k} (omega (arith, length-replicate {A = ℕ} most 0)))
        (λ (a : k < most). get_or-replicate most k 0 0 a) (le_or_lt most k)

module _ (block : List (List ℕ)) (m i : ℕ) where
  -- The same arrays under other names.
  pub up_to_same : (l : ℕ) {each above : List ℕ} {largest : ℕ} {each' above' : List ℕ} {largest' : ℕ} → each' ≡ each → above' ≡ above → largest' ≡ largest → HeldUpTo block m i l each above largest → HeldUpTo block m i l each' above' largest'
  up_to_same l e a b s = rw (e, a, b) s

  -- The same at another resource of the same index.
  pub up_to_at : {l l' : ℕ} {each above : List ℕ} {largest : ℕ} → l ≡ l' → HeldUpTo block m i l each above largest → HeldUpTo block m i l' each above largest
  up_to_at e s = rw (← e) s

  -- All resources of a task: it is joined.
  pub up_to_next : (each above : List ℕ) (largest l : ℕ) → m ≤ l → HeldUpTo block m i l each above largest → HeldUpTo block m (i + 1) 0 each above largest
  up_to_next each above largest l q s =
      record {
        each_size = s.each_size;
        above_size = s.above_size;
        joined = λ k a. absurd (omega arith);
        others = λ k a b. s.joined k (omega arith);
        behind = s.behind;
        above_fits = s.above_fits;
        largest_is = s.largest_is;
        largest_fits = s.largest_fits;
      }

  module _ (each above : List ℕ) (largest l c : ℕ) (listed : l < m) (few : m ≤ most) (access : c ≡ access_in block i l) (s : HeldUpTo block m i l each above largest) where
    -- A resource that the task does not access.
    pub up_to_without : c ≡ 0 → HeldUpTo block m i (l + 1) each above largest
    up_to_without z =
        record {
          each_size = s.each_size;
          above_size = s.above_size;
          joined =
              λ k q.
              ⊎_elim (λ (a : l ≤ k). let e : k ≡ l = omega arith in rw e (so_far_without block l m i (slot_of each l) (slot_of above l) c access z (s.others l (omega arith) listed)))
              (λ (a : k < l). s.joined k a) (le_or_lt l k);
          others = λ k a b. s.others k (omega arith) b;
          behind = s.behind;
          above_fits = s.above_fits;
          largest_is = s.largest_is;
          largest_fits = s.largest_fits;
        }

    pub slot_at_most : slot_of each l ≤ largest
    slot_at_most = omega (arith, s.largest_is, below_largest (slot_of each) m l listed)

    pub work_above_fits : (before top : ℕ) → before < 34359738368 → top ≡ cond (eqb (slot_of each l) 0) before (slot_of above l) → top < 34359738368
    work_above_fits before top fits t =
        ⊎_elim (λ (z : slot_of each l ≡ 0). rw (t, eq-eqb (slot_of each l) 0 z) fits)
        (λ (z : slot_of each l ≡ 0 → ⊥). rw (t, ne_eqb (slot_of each l) 0 z) (s.above_fits l (omega arith)))
        (same_or_not (slot_of each l) 0)

    -- One that it accesses.
    pub up_to_with :
        i < count_in block → 0 < c → c < 4294967296 → (before top held y r : ℕ) → before ≡ sum_to (work_in block) i → before < 34359738368 →
        top ≡ cond (eqb (slot_of each l) 0) before (slot_of above l) → held ≡ top + c → y ≡ max (slot_of each l) held → r ≡ max largest held →
        HeldUpTo block m i (l + 1) (set each l y) (set above l top) r
    up_to_with h pos small before top held y r f fits t w e g =
        record {
          each_size = length-set each l y ∙ s.each_size;
          above_size = length-set above l top ∙ s.above_size;
          joined =
              λ k q.
              ⊎_elim
              (λ (a : l ≤ k). let same : k ≡ l = omega arith in rw (same, here, here_above) with_it)
              (λ (a : k < l). rw (else k (omega arith), else_above k (omega arith)) (s.joined k a)) (le_or_lt l k);
          others = λ k a b. rw (else k (omega arith), else_above k (omega arith)) (s.others k (omega arith) b);
          behind = λ k a b. else k (omega arith) ∙ s.behind k a b;
          above_fits =
              λ k q.
              ⊎_elim (λ (a : k ≡ l). rw (a, here_above) (work_above_fits before top fits t))
              (λ (a : k ≡ l → ⊥). rw (else_above k a) (s.above_fits k q)) (same_or_not k l);
          largest_is = largest_raised each m l y held room listed e largest r s.largest_is g;
          largest_fits = omega (arith, g, s.largest_fits, w, work_above_fits before top fits t, small);
        }
      where
        room : l < length each
        room = omega (arith, s.each_size)

        here : slot_of (set each l y) l ≡ y
        here = get_or-set_same each l y 0 room

        here_above : slot_of (set above l top) l ≡ top
        here_above = get_or-set_same above l top 0 (omega (arith, s.above_size))

        else : (k : ℕ) → (k ≡ l → ⊥) → slot_of (set each l y) k ≡ slot_of each k
        else k n = get_or-set_other each l k y 0 n

        else_above : (k : ℕ) → (k ≡ l → ⊥) → slot_of (set above l top) k ≡ slot_of above k
        else_above k n = get_or-set_other above l k top 0 n

        with_it : HeldSoFar block m (i + 1) l y top
        with_it =
            so_far_with block l m i (slot_of each l) (slot_of above l) c access listed h pos before top y f t (e ∙ ap (max (slot_of each l)) w)
            (s.others l (omega arith) listed)

-- The arrays behind the last task.
module _ (block : List (List ℕ)) (m i : ℕ) (each above : List ℕ) (largest : ℕ) (all : i ≡ count_in block) (few : m ≤ most) (s : HeldUpTo block m i 0 each above largest) where
  pub up_to_all : each ≡ padded (resource_holding (subsystem_in m block)) 0 most m
  up_to_all =
      ext_get_or 0 each (padded (resource_holding (subsystem_in m block)) 0 most m)
      (s.each_size ∙ sym (length_padded (resource_holding (subsystem_in m block)) 0 most m few))
      (λ k q.
      ⊎_elim
      (λ (a : m ≤ k).
      s.behind k a (omega (arith, s.each_size)) ∙
      sym (get_d_past (resource_holding (subsystem_in m block)) 0 m most k a (omega (arith, s.each_size))))
      (λ (a : k < m).
      slot k a ∙ sym (get_d_padded (resource_holding (subsystem_in m block)) 0 0 most m k a)) (le_or_lt m k))
    where
      slot : (k : ℕ) → k < m → slot_of each k ≡ resource_holding (subsystem_in m block) k
      slot k a = so_far_all block k m (slot_of each k) (slot_of above k) a (rw (← all) (s.others k (omega arith) a))

  pub up_to_largest : largest ≡ holding m (subsystem_in m block)
  up_to_largest =
      s.largest_is ∙
      largest_to_ext (slot_of each) (resource_holding (subsystem_in m block)) m
      (λ k a. so_far_all block k m (slot_of each k) (slot_of above k) a (rw (← all) (s.others k (omega arith) a))) ∙
      holding_is m m (subsystem_in m block) refl
