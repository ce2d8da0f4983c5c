-- Laws of the judgement in one pass: to look at one more place is to take the earlier of two judgements. Assumes nothing.
use Prim.Native.Nat.{ℕ, ◌+◌, ◌≤◌, ◌<◌}
use native.Mathlib.Numerals.{add-one}
use mathlib.Core.Path.{◌≡◌, refl, sym, ap, ◌∙◌}
use mathlib.Core.Bool.{Bool, true, false, cond, true≢false}
use mathlib.Core.Option.{Option, none, some, map}
use borrow.Author.Tests.{lt-ltb, le-ltb}
use lib.Dec.{eqb}
use Rattle.lists.specs.Range.{or_else, such, first_of, first_such}
use Rattle.lists.proofs.First.{first_of_more}
use mathlib.Core.List.{List}
use Rattle.table.specs.Meaning.{System}
use Rattle.table.specs.Grid.{count_in, task_in, subsystem_in, block_in, system_in}
use Rattle.table.proofs.GridLaws.{count_of_block, task_of_block, count_of_grid}
use Rattle.rules.specs.declared.Rule.{Rule}
use Rattle.rules.specs.declared.Rule.TheVariants.{Counts, Range, Order, Access, Overrun}
use Rattle.rules.specs.declared.Place.{Place}
use Rattle.std.specs.Prelude.{Ok, Err}
use Rattle.rules.specs.Judged.{Judged, admitted, refused}
use Rattle.rules.specs.Refusal.{number_of}
use Rattle.rules.specs.Rules.{place, refused_at, unless_refused, subsystem_breaks, task_breaks, place_breaks, offender_in, offender_at, offender, judged_by, judged_past_counts}
use Rattle.rules.specs.Earlier.{in_order, earlier, is_first, is_refused, judged_at, judged_own, judged_task, judged_subsystem}
use Rattle.rules.proofs.JudgingLaws.{offender_of_block}

-- Only what was found for each rule matters.
in_order_ext : (a b : Rule → Option Place) → ((k : Rule) → a k ≡ b k) → in_order a ≡ in_order b
unfolding in_order
in_order_ext a b h = rw (h Range, h Order, h Access) refl

abbrev chain : Option Place → Option Place → Option Place → Judged
chain o p q = unless_refused (refused_at Range o) (unless_refused (refused_at Order p) (refused_at Access q))

-- What was found first and, where nothing was, what was found later: judged at once, or one by one. In each line below the
-- first that was found on either side decides; there are no others.
one_more : (a b : Rule → Option Place) → earlier (in_order a) (in_order b) ≡ in_order (λ k. or_else (a k) (b k))
unfolding in_order
one_more a b = go (a Range) (a Order) (a Access) (b Range) (b Order) (b Access)
  where
    go : (o p q o' p' q' : Option Place) → earlier (chain o p q) (chain o' p' q') ≡ chain (or_else o o') (or_else p p') (or_else q q')
    go (some x) o1 o2 (some y) p1 p2 = refl
    go (some x) o1 o2 none (some y) p2 = refl
    go (some x) o1 o2 none none (some y) = refl
    go (some x) o1 o2 none none none = refl
    go none (some x) o2 (some y) p1 p2 = refl
    go none (some x) o2 none (some y) p2 = refl
    go none (some x) o2 none none (some y) = refl
    go none (some x) o2 none none none = refl
    go none none (some x) (some y) p1 p2 = refl
    go none none (some x) none (some y) p2 = refl
    go none none (some x) none none (some y) = refl
    go none none (some x) none none none = refl
    go none none none (some y) p1 p2 = refl
    go none none none none (some y) p2 = refl
    go none none none none none (some y) = refl
    go none none none none none none = refl

-- Whether it is by rule 2, by its number.
pub first_by : (found : Judged) (k : Rule) (p : Place) (x : ℕ) → found ≡ refused k p → x ≡ number_of k → eqb x 2 ≡ is_first found
first_by found k p x e f = rw (e, f) refl

-- Behind a refusal by rule 2 nothing is earlier.
pub nothing_earlier : (found : Judged) (b : Rule → Option Place) → is_first found ≡ true → found ≡ earlier found (in_order b)
unfolding in_order
nothing_earlier found b e = go found (b Range) (b Order) (b Access) e
  where
    by : (k : Rule) (x : Place) (o p q : Option Place) → is_first (refused k x) ≡ true → refused k x ≡ earlier (refused k x) (chain o p q)
    by Counts x o p q e = absurd (true≢false (sym e))
    by Order x o p q e = absurd (true≢false (sym e))
    by Access x o p q e = absurd (true≢false (sym e))
    by Overrun x o p q e = absurd (true≢false (sym e))
    by Range x (some y) p q e = refl
    by Range x none (some y) q e = refl
    by Range x none none (some y) e = refl
    by Range x none none none e = refl

    go : (found : Judged) (o p q : Option Place) → is_first found ≡ true → found ≡ earlier found (chain o p q)
    go (Ok _) o p q e = absurd (true≢false (sym e))
    go (Err r) o p q e = by r.rule r.place o p q e

-- What breaks nothing leaves what was found.
pub as_it_was : (found next : Judged) → is_refused next ≡ false → found ≡ earlier found next
as_it_was found (Ok _) e = refl
as_it_was found (Err r) e = absurd (true≢false e)

------------------------------------------------------------------------
-- The ways out of the code that takes the earlier of two

module _ (found next : Judged) (k : Rule) (p : Place) (e : next ≡ refused k p) where
  pub after_none : found ≡ admitted → refused k p ≡ earlier found next
  after_none f = rw (e, f) refl

  -- Of two refusals the one by the lower rule stands, and the one that was found first where neither is lower.
  module _ (j : Rule) (q : Place) (f : found ≡ refused j q) (a b : ℕ) (g : a ≡ number_of k) (h : b ≡ number_of j) where
    pub by_lower : a < b → refused k p ≡ earlier found next
    by_lower l = rw (e, f, lt-ltb (number_of k) (number_of j) (rw (← g, ← h) l)) refl

    pub by_no_lower : b ≤ a → refused j q ≡ earlier found next
    by_no_lower l = rw (e, f, le-ltb (number_of k) (number_of j) (rw (← g, ← h) l)) refl

------------------------------------------------------------------------
-- One place

module _ (breaks : Rule → Bool) (p : Place) where
  pub at_range : breaks Range ≡ true → refused Range p ≡ judged_at breaks p
  unfolding judged_at in_order
  at_range e = rw e refl

  pub at_order : breaks Range ≡ false → breaks Order ≡ true → refused Order p ≡ judged_at breaks p
  unfolding judged_at in_order
  at_order d e = rw (d, e) refl

  pub at_access : breaks Range ≡ false → breaks Order ≡ false → breaks Access ≡ true → refused Access p ≡ judged_at breaks p
  unfolding judged_at in_order
  at_access c d e = rw (c, d, e) refl

  pub at_none : breaks Range ≡ false → breaks Order ≡ false → breaks Access ≡ false → admitted ≡ judged_at breaks p
  unfolding judged_at in_order
  at_none c d e = rw (c, d, e) refl

------------------------------------------------------------------------
-- One subsystem

module _ (m s : ℕ) (block : List (List ℕ)) where
  -- What each rule finds among the subsystem's own place and its first i tasks.
  unfoldable pub found_to : ℕ → Rule → Option Place
  found_to i k = map (place s) (first_such (place_breaks m k (subsystem_in m block)) (i + 1) 0)

  unfoldable pub JudgedTo : ℕ → Judged → Type 0
  JudgedTo i found = found ≡ in_order (found_to i)

  mapped : (b : Bool) (i : ℕ) → map (place s) (cond b (some i) none) ≡ cond b (some (place s i)) none
  mapped true i = refl
  mapped false i = refl

  pub judged_own_lem : (found : Judged) → found ≡ judged_own m s (subsystem_in m block) → JudgedTo 0 found
  unfolding JudgedTo found_to judged_own judged_at first_such first_of place_breaks
  judged_own_lem found e = e ∙ in_order_ext _ _ (λ k. sym (ap (map (place s)) (alone (subsystem_breaks m k (subsystem_in m block))) ∙ mapped (subsystem_breaks m k (subsystem_in m block)) 0))
    where
      alone : (b : Bool) → or_else {A = ℕ} (cond b (some 0) none) none ≡ cond b (some 0) none
      alone true = refl
      alone false = refl

  place_of_task : (k : Rule) (i : ℕ) → i < count_in block → place_breaks m k (subsystem_in m block) (i + 1) ≡ task_breaks m k (task_in m block i)
  unfolding place_breaks
  place_of_task k i h = rw (add-one, task_of_block m block i h) refl

  one_place_more :
      (k : Rule) (i : ℕ) → i < count_in block →
      or_else (found_to i k) (cond (task_breaks m k (task_in m block i)) (some (place s (i + 1))) none) ≡ found_to (i + 1) k
  unfolding found_to first_such
  one_place_more k i h =
      rw (first_of_more (such (place_breaks m k (subsystem_in m block))) (i + 1), ← place_of_task k i h)
      (sym (over (first_of (such (place_breaks m k (subsystem_in m block))) (i + 1) 0) (place_breaks m k (subsystem_in m block) (i + 1))))
    where
      over : (o : Option ℕ) (b : Bool) → map (place s) (or_else o (cond b (some (i + 1)) none)) ≡ or_else (map (place s) o) (cond b (some (place s (i + 1))) none)
      over (some x) b = refl
      over none b = mapped b (i + 1)

  pub judged_task_lem :
      (i : ℕ) (found next : Judged) → i < count_in block → JudgedTo i found →
      next ≡ earlier found (judged_task m (place s (i + 1)) (task_in m block i)) → JudgedTo (i + 1) next
  unfolding JudgedTo judged_task judged_at
  judged_task_lem i found next h e f =
      f ∙ rw e (one_more _ _ ∙ in_order_ext _ _ (λ k. one_place_more k i h))

  pub judged_all : (i : ℕ) (found : Judged) → i ≡ count_in block → JudgedTo i found → found ≡ judged_subsystem m s (subsystem_in m block)
  unfolding JudgedTo found_to judged_subsystem offender_in
  judged_all i found q e = e ∙ in_order_ext _ _ (λ k. rw (q, count_of_block m block, add-one) refl)

------------------------------------------------------------------------
-- The grid

module _ (n m : ℕ) (grid : List (List (List ℕ))) where
  -- The subsystems below s are judged.
  unfoldable pub JudgedBelow : ℕ → Judged → Type 0
  JudgedBelow s found = found ≡ in_order (λ k. first_of (offender_at (system_in n m grid) k) s 0)

  pub judged_none : JudgedBelow 0 admitted
  unfolding JudgedBelow in_order first_of
  judged_none = refl

  pub judged_one :
      (s : ℕ) (found next : Judged) → s < n → JudgedBelow s found →
      next ≡ earlier found (judged_subsystem m (s + 1) (subsystem_in m (block_in grid s))) → JudgedBelow (s + 1) next
  unfolding JudgedBelow judged_subsystem
  judged_one s found next h e f =
      f ∙ rw e (one_more _ _ ∙ in_order_ext _ _ (λ k.
      ap (or_else (first_of (offender_at (system_in n m grid) k) s 0)) (sym (offender_of_block n m grid k s h)) ∙ sym (first_of_more (offender_at (system_in n m grid) k) s)))

  pub judged_every : (s : ℕ) (found : Judged) → s ≡ n → JudgedBelow s found → found ≡ in_order (offender (system_in n m grid))
  unfolding JudgedBelow offender
  judged_every s found q e = e ∙ in_order_ext _ _ (λ k. rw (q, count_of_grid n m grid) refl)

-- Rule 5 comes behind rules 2 to 4.
pub rule_5_last : (sys : System) → unless_refused (in_order (offender sys)) (judged_by sys Overrun) ≡ judged_past_counts sys
unfolding in_order judged_past_counts judged_by
rule_5_last sys = go (offender sys Range) (offender sys Order) (offender sys Access) (refused_at Overrun (offender sys Overrun))
  where
    go : (o p q : Option Place) (next : Judged) → unless_refused (chain o p q) next ≡ unless_refused (refused_at Range o) (unless_refused (refused_at Order p) (unless_refused (refused_at Access q) next))
    go (some x) p q next = refl
    go none (some x) q next = refl
    go none none (some x) next = refl
    go none none none next = refl
