-- The judgement is exactly the first break: a refusal by rule k at a place is given where that place breaks rule k, no
-- earlier place does, and no earlier rule is broken anywhere; a table is admitted where nothing is broken. Assumes nothing.
use Prim.Native.Nat.{ℕ, suc, ◌+◌, ◌≤◌, ◌<◌}
use native.Mathlib.Nat.{eq-or-lt_of_le}
use native.Mathlib.Omega.{arith}
use mathlib.Core.Path.{◌≡◌, refl, sym, ap, ◌∙◌}
use mathlib.Core.Bool.{Bool, true, false, cond, true≢false}
use mathlib.Core.Logic.{◌⊎◌, inl, inr, ⊎_elim, ◌↔◌}
use mathlib.Core.Option.{Option, none, some, map, none-ne-some, some-injective}
use lib.Dec.{eqb}
use Rattle.lists.proofs.First.{IsFirst, IsFirstSuch, first_of_means, first_such_means, first_such_none}
use Rattle.lists.proofs.Over.{le_or_lt}
use Rattle.table.specs.Meaning.{System}
use Rattle.table.specs.Parts.{subsystem_count, subsystem_of, task_count}
use Rattle.rules.specs.declared.Rule.{Rule}
use Rattle.rules.specs.declared.Rule.TheVariants.{Counts, Range, Order, Access, Overrun}
use Rattle.rules.specs.declared.Place.{Place}
use Rattle.std.specs.Prelude.{Ok, Err}
use Rattle.rules.specs.Judged.{Judged, admitted, refused}
use Rattle.rules.specs.Refusal.{number_of}
use Rattle.rules.specs.Rules.{table_breaks, place_breaks, offender_in, offender_at, offender, place, refused_at, judged_by, unless_refused, judged_past_counts, judge_of}
use Rattle.rules.specs.Exactly.{Breaks, whole, part, Earlier, FirstBreak}
use Rattle.rules.proofs.OrderLaws.{refused_names, passed_rule, mapped_none}

------------------------------------------------------------------------
-- One rule

-- Rule k is broken nowhere.
abbrev Unbroken : System → Rule → Type 0
Unbroken sys k = (s i : ℕ) → Breaks sys k s i → ⊥

-- A break is at the whole table, or in a subsystem.
break_where :
    (sys : System) {k : Rule} {s i : ℕ} → Breaks sys k s i →
    (table_breaks sys ≡ true) ⊎ ((r : ℕ) × (s ≡ r + 1) × (r < subsystem_count sys) × (i ≤ task_count (subsystem_of sys r)) × (place_breaks sys.resources k (subsystem_of sys r) i ≡ true))
break_where sys (whole e) = inl e
break_where sys (part k s i h l e) = inr (s, refl, h, l, e)

not_both : (b : Bool) → b ≡ false → b ≡ true → ⊥
not_both b f t = true≢false (sym t ∙ f)

module _ (sys : System) (sound : table_breaks sys ≡ false) where
  pub unbroken : (k : Rule) → judged_by sys k ≡ admitted → Unbroken sys k
  unbroken k e s i b =
      ⊎_elim (λ (w : table_breaks sys ≡ true). not_both _ sound w)
      (λ (p : (r : ℕ) × (s ≡ r + 1) × (r < subsystem_count sys) × (i ≤ task_count (subsystem_of sys r)) × (place_breaks sys.resources k (subsystem_of sys r) i ≡ true)).
      not_both _ (passed_rule sys k e p.0 p.2 i p.3) p.4)
      (break_where sys b)

  -- What an offender found by rule k is: the first place that breaks it.
  found_first :
      (k : Rule) (s i : ℕ) (p : Place) → IsFirst (offender_at sys k) (subsystem_count sys) 0 s p →
      offender_in sys.resources k (subsystem_of sys s) ≡ some i →
      Breaks sys k (s + 1) i × ((s' i' : ℕ) → Earlier s' i' (s + 1) i → Breaks sys k s' i' → ⊥)
  unfolding offender_in offender_at Earlier
  found_first k s i p f e = (part k s i (omega (arith, f.within)) (omega (arith, q.within)) q.passes, earlier)
    where
      q : IsFirstSuch (place_breaks sys.resources k (subsystem_of sys s)) (suc (task_count (subsystem_of sys s))) 0 i
      q = first_such_means (place_breaks sys.resources k (subsystem_of sys s)) (suc (task_count (subsystem_of sys s))) 0 i e

      Elsewhere : ℕ → ℕ → ℕ → Type 0
      Elsewhere s' i' r = (s' ≡ r + 1) × (r < subsystem_count sys) × (i' ≤ task_count (subsystem_of sys r)) × (place_breaks sys.resources k (subsystem_of sys r) i' ≡ true)

      lower : (s' i' r : ℕ) → Elsewhere s' i' r → s' < s + 1 → ⊥
      lower s' i' r w l =
          not_both _
          (first_such_none (place_breaks sys.resources k (subsystem_of sys r)) (suc (task_count (subsystem_of sys r))) 0
          (mapped_none (place (r + 1)) _ (f.before r (omega arith) (omega (arith, w.0)))) i' (omega arith) (omega (arith, w.2)))
          w.3

      same : (s' i' r : ℕ) → Elsewhere s' i' r → s' ≡ s + 1 → i' < i → ⊥
      same s' i' r w g l =
          let h : r ≡ s = omega (arith, w.0) in
          not_both _ (q.before i' (omega arith) l) (rw (← h) w.3)

      earlier : (s' i' : ℕ) → (s' < s + 1) ⊎ ((s' ≡ s + 1) × (i' < i)) → Breaks sys k s' i' → ⊥
      earlier s' i' order b =
          ⊎_elim (λ (w : table_breaks sys ≡ true). not_both _ sound w)
          (λ (w : (r : ℕ) × (s' ≡ r + 1) × (r < subsystem_count sys) × (i' ≤ task_count (subsystem_of sys r)) × (place_breaks sys.resources k (subsystem_of sys r) i' ≡ true)).
          let there : Elsewhere s' i' w.0 = (w.1, w.2, w.3, w.4) in
          ⊎_elim (λ (l : s' < s + 1). lower s' i' w.0 there l)
          (λ (g : (s' ≡ s + 1) × (i' < i)). same s' i' w.0 there g.0 g.1) order)
          (break_where sys b)

  -- A refusal by rule k alone names that rule, and the first place that breaks it.
  pub refused_by_rule :
      (k k' : Rule) (s i : ℕ) → judged_by sys k ≡ refused k' (place s i) →
      (k ≡ k') × Breaks sys k s i × ((s' i' : ℕ) → Earlier s' i' s i → Breaks sys k s' i' → ⊥)
  unfolding judged_by offender offender_at
  refused_by_rule k k' s i e = go (offender sys k) refl e
    where
      Answer : Type 0
      Answer = (k ≡ k') × Breaks sys k s i × ((s' i' : ℕ) → Earlier s' i' s i → Breaks sys k s' i' → ⊥)

      inside : (r : ℕ) (p : Place) → IsFirst (offender_at sys k) (subsystem_count sys) 0 r p → k ≡ k' → p ≡ place s i → (o : Option ℕ) → offender_in sys.resources k (subsystem_of sys r) ≡ o → map (place (r + 1)) o ≡ some p → Answer
      inside r p f g h none q m = absurd (none-ne-some p m)
      inside r p f g h (some j) q m =
          let same : place (r + 1) j ≡ place s i = some-injective _ _ m ∙ h in
          let x = found_first k r j p f q in
          rw (← ap (λ (w : Place). w.subsystem) same, ← ap (λ (w : Place). w.task) same) (g, x.0, x.1)

      go : (o : Option Place) → offender sys k ≡ o → refused_at k o ≡ refused k' (place s i) → Answer
      go none q m = let z : ◌≡◌ {A = ℕ} 0 1 = cc in absurd (omega arith)
      go (some p) q m =
          let r = first_of_means (offender_at sys k) (subsystem_count sys) 0 p q in
          let same = refused_names k k' p (place s i) m in inside r.0 p r.1 same.0 same.1 _ refl r.1.gives

------------------------------------------------------------------------
-- The rules in order

-- A refusal comes from the first judge, or the first admits and it comes from the rest.
whose : (x rest : Judged) (k : Rule) (p : Place) → unless_refused x rest ≡ refused k p → (x ≡ refused k p) ⊎ ((x ≡ admitted) × (rest ≡ refused k p))
whose (Err r) rest k p e = inl e
whose (Ok _) rest k p e = inr (refl, e)

both_admit : (x rest : Judged) → unless_refused x rest ≡ admitted → (x ≡ admitted) × (rest ≡ admitted)
both_admit (Err r) rest e = let z : ◌≡◌ {A = ℕ} 0 1 = cc in absurd (omega arith)
both_admit (Ok _) rest e = (refl, e)

-- The rules before each, as far as they are unbroken.
module _ (sys : System) where
  before_counts : (j : Rule) → number_of j < number_of Counts → Unbroken sys j
  before_counts Counts h = absurd (omega arith)
  before_counts Range h = absurd (omega arith)
  before_counts Order h = absurd (omega arith)
  before_counts Access h = absurd (omega arith)
  before_counts Overrun h = absurd (omega arith)

  module _ (counts : Unbroken sys Counts) where
    before_range : (j : Rule) → number_of j < number_of Range → Unbroken sys j
    before_range Counts h = counts
    before_range Range h = absurd (omega arith)
    before_range Order h = absurd (omega arith)
    before_range Access h = absurd (omega arith)
    before_range Overrun h = absurd (omega arith)

    module _ (range : Unbroken sys Range) where
      before_order : (j : Rule) → number_of j < number_of Order → Unbroken sys j
      before_order Counts h = counts
      before_order Range h = range
      before_order Order h = absurd (omega arith)
      before_order Access h = absurd (omega arith)
      before_order Overrun h = absurd (omega arith)

      module _ (order : Unbroken sys Order) where
        before_access : (j : Rule) → number_of j < number_of Access → Unbroken sys j
        before_access Counts h = counts
        before_access Range h = range
        before_access Order h = order
        before_access Access h = absurd (omega arith)
        before_access Overrun h = absurd (omega arith)

        before_overrun : Unbroken sys Access → (j : Rule) → number_of j < number_of Overrun → Unbroken sys j
        before_overrun access Counts h = counts
        before_overrun access Range h = range
        before_overrun access Order h = order
        before_overrun access Access h = access
        before_overrun access Overrun h = absurd (omega arith)

-- A refusal by rule k, where all earlier rules are unbroken, is the first break.
first_by :
    (sys : System) → table_breaks sys ≡ false → (k k' : Rule) (s i : ℕ) → judged_by sys k ≡ refused k' (place s i) →
    ((j : Rule) → number_of j < number_of k → Unbroken sys j) → FirstBreak sys k' s i
first_by sys sound k k' s i e before =
    let r = refused_by_rule sys sound k k' s i e in
    rw (← r.0) (record { broken = r.1; first = r.2; foremost = before })

module _ (sys : System) (sound : table_breaks sys ≡ false) where
  past_counts : (k : Rule) (s i : ℕ) → Unbroken sys Counts → judged_past_counts sys ≡ refused k (place s i) → FirstBreak sys k s i
  unfolding judged_past_counts
  past_counts k s i counts e =
      ⊎_elim (λ (r : judged_by sys Range ≡ refused k (place s i)). first_by sys sound Range k s i r (before_range sys counts))
      (λ (n : (judged_by sys Range ≡ admitted) × (unless_refused (judged_by sys Order) (unless_refused (judged_by sys Access) (judged_by sys Overrun)) ≡ refused k (place s i))).
      let range = unbroken sys sound Range n.0 in
      ⊎_elim (λ (r : judged_by sys Order ≡ refused k (place s i)). first_by sys sound Order k s i r (before_order sys counts range))
      (λ (o : (judged_by sys Order ≡ admitted) × (unless_refused (judged_by sys Access) (judged_by sys Overrun) ≡ refused k (place s i))).
      let order = unbroken sys sound Order o.0 in
      ⊎_elim (λ (r : judged_by sys Access ≡ refused k (place s i)). first_by sys sound Access k s i r (before_access sys counts range order))
      (λ (a : (judged_by sys Access ≡ admitted) × (judged_by sys Overrun ≡ refused k (place s i))).
      first_by sys sound Overrun k s i a.1 (before_overrun sys counts range order (unbroken sys sound Access a.0)))
      (whose _ _ k _ o.1))
      (whose _ _ k _ n.1))
      (whose _ _ k _ e)

-- A refusal names the first break.
pub refusal_is_first : (sys : System) (k : Rule) (s i : ℕ) → judge_of sys ≡ refused k (place s i) → FirstBreak sys k s i
unfolding judge_of Earlier
refusal_is_first sys k s i e = go (table_breaks sys) refl e
  where
    nothing_earlier : (s' i' : ℕ) → (s' < 0) ⊎ ((s' ≡ 0) × (i' < 0)) → Breaks sys Counts s' i' → ⊥
    nothing_earlier s' i' o b = ⊎_elim (λ (h : s' < 0). omega arith) (λ (h : (s' ≡ 0) × (i' < 0)). omega arith) o

    go : (b : Bool) → table_breaks sys ≡ b → cond b (refused Counts (place 0 0)) (unless_refused (judged_by sys Counts) (judged_past_counts sys)) ≡ refused k (place s i) → FirstBreak sys k s i
    go true t q =
        let same = refused_names Counts k (place 0 0) (place s i) q in
        rw (← same.0, ← ap (λ (w : Place). w.subsystem) same.1, ← ap (λ (w : Place). w.task) same.1)
        (record { broken = whole t; first = nothing_earlier; foremost = before_counts sys })
    go false t q =
        ⊎_elim (λ (r : judged_by sys Counts ≡ refused k (place s i)). first_by sys t Counts k s i r (before_counts sys))
        (λ (n : (judged_by sys Counts ≡ admitted) × (judged_past_counts sys ≡ refused k (place s i))).
        past_counts sys t k s i (unbroken sys t Counts n.0) n.1)
        (whose _ _ k _ q)

past_counts_admits :
    (sys : System) → judged_past_counts sys ≡ admitted →
    (judged_by sys Range ≡ admitted) × (judged_by sys Order ≡ admitted) × (judged_by sys Access ≡ admitted) × (judged_by sys Overrun ≡ admitted)
unfolding judged_past_counts
past_counts_admits sys e =
    let r = both_admit (judged_by sys Range) _ e in
    let o = both_admit (judged_by sys Order) _ r.1 in
    let a = both_admit (judged_by sys Access) _ o.1 in (r.0, o.0, a.0, a.1)

-- In an admitted table nothing is broken.
pub admitted_is_unbroken : (sys : System) → judge_of sys ≡ admitted → (k : Rule) (s i : ℕ) → Breaks sys k s i → ⊥
unfolding judge_of
admitted_is_unbroken sys e k = go (table_breaks sys) refl e
  where
    rest : table_breaks sys ≡ false → unless_refused (judged_by sys Counts) (judged_past_counts sys) ≡ admitted → (j : Rule) → Unbroken sys j
    rest t q Counts = unbroken sys t Counts (both_admit (judged_by sys Counts) (judged_past_counts sys) q).0
    rest t q Range = unbroken sys t Range (past_counts_admits sys (both_admit (judged_by sys Counts) (judged_past_counts sys) q).1).0
    rest t q Order = unbroken sys t Order (past_counts_admits sys (both_admit (judged_by sys Counts) (judged_past_counts sys) q).1).1
    rest t q Access = unbroken sys t Access (past_counts_admits sys (both_admit (judged_by sys Counts) (judged_past_counts sys) q).1).2
    rest t q Overrun = unbroken sys t Overrun (past_counts_admits sys (both_admit (judged_by sys Counts) (judged_past_counts sys) q).1).3

    go : (b : Bool) → table_breaks sys ≡ b → cond b (refused Counts (place 0 0)) (unless_refused (judged_by sys Counts) (judged_past_counts sys)) ≡ admitted → Unbroken sys k
    go true t q = let z : ◌≡◌ {A = ℕ} 0 1 = cc in absurd (omega arith)
    go false t q = rest t q k

------------------------------------------------------------------------
-- There is one first break only, so the judgement is exactly it

same_rule : (j k : Rule) → number_of j ≡ number_of k → j ≡ k
same_rule j k e = go j k e
  where
    rule_of : ℕ → Rule
    rule_of n = cond (eqb n 1) Counts (cond (eqb n 2) Range (cond (eqb n 3) Order (cond (eqb n 4) Access Overrun)))

    back : (r : Rule) → rule_of (number_of r) ≡ r
    back Counts = refl
    back Range = refl
    back Order = refl
    back Access = refl
    back Overrun = refl

    go : (x y : Rule) → number_of x ≡ number_of y → x ≡ y
    go x y q = sym (back x) ∙ ap rule_of q ∙ back y

module _ (sys : System) where
  one_rule : (j k : Rule) (s i s' i' : ℕ) → FirstBreak sys j s i → FirstBreak sys k s' i' → j ≡ k
  one_rule j k s i s' i' f g =
      same_rule j k
      (⊎_elim (λ (l : number_of j ≤ number_of k).
      ⊎_elim (λ (q : number_of j ≡ number_of k). q)
      (λ (l : number_of j < number_of k). absurd (g.foremost j l s i f.broken)) (eq-or-lt_of_le l))
      (λ (l : number_of k < number_of j). absurd (f.foremost k l s' i' g.broken)) (le_or_lt (number_of j) (number_of k)))

  no_earlier : (k : Rule) (s i s' i' : ℕ) → FirstBreak sys k s i → FirstBreak sys k s' i' → (s ≤ s') × (s ≡ s' → i ≤ i')
  unfolding Earlier
  no_earlier k s i s' i' f g = (
    ⊎_elim (λ (l : s ≤ s'). l) (λ (l : s' < s). absurd (f.first s' i' (inl l) g.broken)) (le_or_lt s s'),
    λ q. ⊎_elim (λ (l : i ≤ i'). l) (λ (l : i' < i). absurd (f.first s' i' (inr (sym q, l)) g.broken)) (le_or_lt i i'),
  )

  one_place : (k : Rule) (s i s' i' : ℕ) → FirstBreak sys k s i → FirstBreak sys k s' i' → (s ≡ s') × (i ≡ i')
  one_place k s i s' i' f g =
      let a = no_earlier k s i s' i' f g in
      let b = no_earlier k s' i' s i g f in
      let q : s ≡ s' = omega (arith, a.0, b.0) in (q, omega (arith, a.1 q, b.1 (sym q)))

  -- Where a rule is broken first, that rule at that place is the judgement.
  first_is_refused : (k : Rule) (s i : ℕ) → FirstBreak sys k s i → judge_of sys ≡ refused k (place s i)
  first_is_refused k s i f = go (judge_of sys) refl
    where
      go : (j : Judged) → judge_of sys ≡ j → j ≡ refused k (place s i)
      go (Ok _) e = absurd (admitted_is_unbroken sys e k s i f.broken)
      go (Err r) e =
          let p = r.place in
          let g = refusal_is_first sys r.rule p.subsystem p.task e in
          let a = one_rule r.rule k p.subsystem p.task s i g f in
          let q = one_place k p.subsystem p.task s i (rw (← a) g) f in rw (a, ← q.0, ← q.1)

  -- Rule k at place s i is the answer exactly when that place breaks rule k, no earlier place breaks it, and no earlier
  -- rule is broken anywhere.
  pub refused_exactly : (k : Rule) (s i : ℕ) → (judge_of sys ≡ refused k (place s i)) ↔ FirstBreak sys k s i
  refused_exactly k s i = (refusal_is_first sys k s i, first_is_refused k s i)

  -- Admitted exactly when nothing is broken.
  pub admitted_exactly : (judge_of sys ≡ admitted) ↔ ((k : Rule) (s i : ℕ) → Breaks sys k s i → ⊥)
  admitted_exactly = (admitted_is_unbroken sys, λ h. go h (judge_of sys) refl)
    where
      go : ((k : Rule) (s i : ℕ) → Breaks sys k s i → ⊥) → (j : Judged) → judge_of sys ≡ j → judge_of sys ≡ admitted
      go h (Ok _) e = e
      go h (Err r) e =
          absurd (h r.rule r.place.subsystem r.place.task (refusal_is_first sys r.rule r.place.subsystem r.place.task e).broken)
