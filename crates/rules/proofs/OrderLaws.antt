-- Laws of the rules' order: a refusal stands, and where there is none the next rule judges; and what rule 1 gives the
-- rules after it. Assumes nothing.
use Prim.Native.Nat.{ℕ, suc, ◌+◌, ◌≤◌, ◌<◌}
use native.Mathlib.Omega.{arith}
use mathlib.Core.Path.{◌≡◌, refl, sym, ap, ◌∙◌}
use mathlib.Core.Bool.{Bool, true, false, cond, ◌||◌, true≢false}
use mathlib.Core.Option.{Option, none, some, map, some-ne-none}
use borrow.Author.Tests.{lt-ltb, le-ltb, ltb-false, eq-eqb, ne_eqb}
use lib.Dec.{ltb}
use lib.ListN.{get_or}
use Rattle.lists.specs.Range.{first_of}
use Rattle.lists.proofs.First.{first_of_none, first_of_nowhere, first_such_none}
use Rattle.table.specs.declared.Table.{Table}
use Rattle.table.specs.Limits.{most}
use Rattle.table.specs.Meaning.{System, past_subsystems, meaning}
use Rattle.table.specs.Parts.{task_count, subsystem_count, subsystem_of}
use mathlib.Core.List.{List}
use Rattle.table.specs.Grid.{count_in, block_in, system_in, HasRoom}
use Rattle.table.proofs.Parts.{count_of_tasks, count_of_subsystems, subsystem_of_slot}
use Rattle.table.proofs.GridLaws.{count_of_block, count_of_grid, subsystem_of_grid}
use Rattle.rules.specs.declared.Rule.{Rule}
use Rattle.rules.specs.declared.Rule.TheVariants.{Counts}
use Rattle.rules.specs.declared.Place.{Place}
use Rattle.rules.specs.declared.Broken.{Broken}
use Rattle.rules.specs.Judged.{Judged, admitted, refused}
use Rattle.rules.specs.Rules.{count_out, table_breaks, subsystem_breaks, place_breaks, offender_in, offender_at, offender, place, refused_at, judged_by, unless_refused, judged_past_counts, counts_judged, judge_of, judge_one_of}
use Rattle.rules.proofs.JudgingLaws.{own_nowhere, no_task_counts}
use Rattle.rules.specs.Slots.{CountedSystem, CountedTable, CountedGrid}

------------------------------------------------------------------------
-- The order

-- A refusal names one rule and one place.
pub refused_names : (k k' : Rule) (p p' : Place) → refused k p ≡ refused k' p' → (k ≡ k') × (p ≡ p')
refused_names k k' p p' e =
    let same : ◌≡◌ {A = Broken} (record { rule = k; place = p }) (record { rule = k'; place = p' }) = cc in
    (ap (λ (r : Broken). r.rule) same, ap (λ (r : Broken). r.place) same)

-- A refusal does not admit.
pub refused_not_admitted : (k : Rule) (p : Place) → refused k p ≡ admitted → ⊥
refused_not_admitted k p e = let z : ◌≡◌ {A = ℕ} 0 1 = cc in absurd (omega arith)

-- A refusal stands.
pub refusal_stands : (j x next : Judged) (k : Rule) (p : Place) → j ≡ x → j ≡ refused k p → j ≡ unless_refused x next
refusal_stands j x next k p e r = r ∙ ap (λ (y : Judged). unless_refused y next) (sym r ∙ e)

-- Where there is none, the next rule judges.
pub next_judges : (j x next : Judged) → j ≡ x → j ≡ admitted → unless_refused x next ≡ next
next_judges j x next e a = ap (λ (y : Judged). unless_refused y next) (sym e ∙ a)

------------------------------------------------------------------------
-- Rule 1 for the table as a whole

-- Neither part of a disjunction that fails holds.
pub neither : (a b : Bool) → (a || b) ≡ false → (a ≡ false) × (b ≡ false)
neither true b e = absurd (true≢false e)
neither false b e = (refl, e)

-- A count that is not out of range is in range.
pub in_range : (n : ℕ) → count_out n ≡ false → (1 ≤ n) × (n ≤ most)
in_range n e =
    let a = ltb-false n 1 (neither (ltb n 1) (ltb most n) e).0 in
    let b = ltb-false most n (neither (ltb n 1) (ltb most n) e).1 in (a, b)

table_by : (t : Table) → table_breaks (meaning t) ≡ (count_out t.count || ltb most t.resources)
unfolding table_breaks meaning
table_by t = ap (λ (n : ℕ). count_out n || ltb most t.resources) (count_of_subsystems t)

module _ (t : Table) (b : Bool) (e : b ≡ count_out t.count) where
  whole_refused : table_breaks (meaning t) ≡ true → refused Counts (place 0 0) ≡ counts_judged (meaning t)
  unfolding counts_judged
  whole_refused h = rw h

  pub refused_by_n : b ≡ true → refused Counts (place 0 0) ≡ counts_judged (meaning t)
  refused_by_n h = whole_refused (table_by t ∙ rw (← e, h))

  pub refused_by_m : b ≡ false → most < t.resources → refused Counts (place 0 0) ≡ counts_judged (meaning t)
  refused_by_m h l = whole_refused (table_by t ∙ rw (← e, h) (lt-ltb most t.resources l))

  -- N and M are in range: each n decides.
  pub past_the_whole : b ≡ false → t.resources ≤ most → judged_by (meaning t) Counts ≡ counts_judged (meaning t)
  unfolding counts_judged
  past_the_whole h l =
      let q : table_breaks (meaning t) ≡ false = table_by t ∙ rw (← e, h) (le-ltb most t.resources l) in
      rw q

  pub count_in_range : b ≡ false → (1 ≤ t.count) × (t.count ≤ most)
  count_in_range h = in_range t.count (sym e ∙ h)

-- Rule 1 comes first, and the rest behind it.
pub counts_first : (sys : System) → unless_refused (counts_judged sys) (judged_past_counts sys) ≡ judge_of sys
unfolding counts_judged judge_of
counts_first sys = go (table_breaks sys)
  where
    go : (b : Bool) → unless_refused (cond b (refused Counts (place 0 0)) (judged_by sys Counts)) (judged_past_counts sys) ≡ cond b (refused Counts (place 0 0)) (unless_refused (judged_by sys Counts) (judged_past_counts sys))
    go true = refl
    go false = refl

-- Where rule 1 refuses nothing, the rest decides.
pub past_counts : (sys : System) → counts_judged sys ≡ admitted → judged_past_counts sys ≡ judge_of sys
past_counts sys e = ap (λ (j : Judged). unless_refused j (judged_past_counts sys)) (sym e) ∙ counts_first sys

------------------------------------------------------------------------
-- What rule 1 gives the rules after it

-- Where rule k refuses nothing, it has no offender, in no subsystem and at no place.
no_offender : (sys : System) (k : Rule) → judged_by sys k ≡ admitted → offender sys k ≡ none
unfolding judged_by
no_offender sys k e = go (offender sys k) e
  where
    go : (o : Option Place) → refused_at k o ≡ admitted → o ≡ none
    go none q = refl
    go (some p) q = let z : ◌≡◌ {A = ℕ} 0 1 = cc in absurd (omega arith)

-- Nothing mapped is nothing.
pub mapped_none : {A B : Type 0} (f : A → B) (o : Option A) → map f o ≡ none → o ≡ none
mapped_none f none e = refl
mapped_none f (some a) e = absurd (some-ne-none (f a) e)

pub passed_rule : (sys : System) (k : Rule) → judged_by sys k ≡ admitted → (s : ℕ) → s < subsystem_count sys → (i : ℕ) → i ≤ task_count (subsystem_of sys s) → place_breaks sys.resources k (subsystem_of sys s) i ≡ false
unfolding offender offender_at offender_in
passed_rule sys k e s h i l =
    first_such_none (place_breaks sys.resources k (subsystem_of sys s)) (suc (task_count (subsystem_of sys s))) 0
    (mapped_none (place (s + 1)) _ (first_of_none (offender_at sys k) (subsystem_count sys) 0 (no_offender sys k e) s (omega arith) (omega arith)))
    i (omega arith) (omega arith)

-- What rule 1 passes as a whole.
counts_passed : (sys : System) → counts_judged sys ≡ admitted → (table_breaks sys ≡ false) × (judged_by sys Counts ≡ admitted)
unfolding counts_judged
counts_passed sys e = go (table_breaks sys) refl e
  where
    go : (b : Bool) → table_breaks sys ≡ b → cond b (refused Counts (place 0 0)) (judged_by sys Counts) ≡ admitted → (table_breaks sys ≡ false) × (judged_by sys Counts ≡ admitted)
    go true p q = let z : ◌≡◌ {A = ℕ} 0 1 = cc in absurd (omega arith)
    go false p q = (p, q)

-- The systems that rule 1 passes have counts in range.
pub counted_system : (sys : System) → counts_judged sys ≡ admitted → CountedSystem sys
unfolding table_breaks place_breaks subsystem_breaks
counted_system sys e =
    record {
      subsystems_least = (in_range (subsystem_count sys) whole.0).0;
      subsystems_most = (in_range (subsystem_count sys) whole.0).1;
      resources_most = ltb-false most sys.resources whole.1;
      some_task = λ s h. (in_range _ (own s h)).0;
      tasks_most = λ s h. (in_range _ (own s h)).1;
    }
  where
    passed : (table_breaks sys ≡ false) × (judged_by sys Counts ≡ admitted)
    passed = counts_passed sys e

    whole : (count_out (subsystem_count sys) ≡ false) × (ltb most sys.resources ≡ false)
    whole = neither (count_out (subsystem_count sys)) (ltb most sys.resources) passed.0

    own : (s : ℕ) → s < subsystem_count sys → count_out (task_count (subsystem_of sys s)) ≡ false
    own s h = passed_rule sys Counts passed.1 s h 0 (omega arith)

-- And those with counts in range it passes.
pub counts_admit : (sys : System) → CountedSystem sys → counts_judged sys ≡ admitted
unfolding counts_judged table_breaks judged_by offender offender_at subsystem_breaks
counts_admit sys c = rw (in_counts _ c.subsystems_least c.subsystems_most, le-ltb most sys.resources c.resources_most, nowhere) refl
  where
    in_counts : (n : ℕ) → 1 ≤ n → n ≤ most → count_out n ≡ false
    in_counts n h k = rw (le-ltb n 1 h, le-ltb most n k) refl

    nowhere : first_of (offender_at sys Counts) (subsystem_count sys) 0 ≡ none
    nowhere =
        first_of_nowhere (offender_at sys Counts) (subsystem_count sys) 0
        (λ s l h.
        let k : s < subsystem_count sys = omega arith in
        ap (map (place (s + 1))) (own_nowhere sys.resources Counts (no_task_counts sys.resources) (subsystem_of sys s) (in_counts _ (c.some_task s k) (c.tasks_most s k))))

-- The same of a table's own counts.
pub counted_table : (t : Table) → counts_judged (meaning t) ≡ admitted → CountedTable t
unfolding meaning
counted_table t e =
    record {
      subsystems_least = rw (← count_of_subsystems t) c.subsystems_least;
      subsystems_most = rw (← count_of_subsystems t) c.subsystems_most;
      resources_most = c.resources_most;
      some_task = λ s h. rw (← tasks s h) (c.some_task s (rw (count_of_subsystems t) h));
      tasks_most = λ s h. rw (← tasks s h) (c.tasks_most s (rw (count_of_subsystems t) h));
    }
  where
    c : CountedSystem (meaning t)
    c = counted_system (meaning t) e

    tasks : (s : ℕ) → s < t.count → task_count (subsystem_of (meaning t) s) ≡ (get_or t.subsystems s past_subsystems).count
    tasks s h = ap task_count (subsystem_of_slot t s h) ∙ count_of_tasks t.resources (get_or t.subsystems s past_subsystems)

-- And of a grid's.
pub counted_grid : (grid : List (List (List ℕ))) (n m : ℕ) → counts_judged (system_in n m grid) ≡ admitted → CountedGrid grid n m
unfolding system_in
counted_grid grid n m e =
    record {
      subsystems_most = rw (← count_of_grid n m grid) c.subsystems_most;
      resources_most = c.resources_most;
      counted = λ s h.
          record {
            some_task = rw (← tasks s h) (c.some_task s (rw (count_of_grid n m grid) h));
            tasks_most = rw (← tasks s h) (c.tasks_most s (rw (count_of_grid n m grid) h));
            resources_most = c.resources_most;
          };
    }
  where
    c : CountedSystem (system_in n m grid)
    c = counted_system (system_in n m grid) e

    tasks : (s : ℕ) → s < n → task_count (subsystem_of (system_in n m grid) s) ≡ count_in (block_in grid s)
    tasks s h = ap task_count (subsystem_of_grid n m grid s h) ∙ count_of_block m (block_in grid s)

-- A grid has room for a table that rule 1 has passed, and what it means then, with the counts as the code hands them on.
pub has_room : (t : Table) → counts_judged (meaning t) ≡ admitted → HasRoom t
has_room t e = let c = counted_table t e in record { subsystems_most = c.subsystems_most; resources_most = c.resources_most; tasks_most = c.tasks_most }

pub laid_out_means :
    (t : Table) (grid : List (List (List ℕ))) → system_in t.count t.resources grid ≡ meaning t → (n m : ℕ) → n ≡ t.count → m ≡ t.resources →
    system_in n m grid ≡ meaning t
laid_out_means t grid e n m p q = rw (p, q) e

-- So rule 1 has passed what is laid out where it has passed the table.
pub laid_out_passes :
    (t : Table) (grid : List (List (List ℕ))) → system_in t.count t.resources grid ≡ meaning t → (n m : ℕ) → n ≡ t.count → m ≡ t.resources →
    (j : Judged) → j ≡ counts_judged (meaning t) → j ≡ admitted → counts_judged (system_in n m grid) ≡ admitted
laid_out_passes t grid e n m p q j f a = ap counts_judged (laid_out_means t grid e n m p q) ∙ sym f ∙ a

------------------------------------------------------------------------
-- One subsystem alone

pub one_judged : (t : Table) (j : Judged) → t.count ≡ 1 → j ≡ judge_of (meaning t) → j ≡ judge_one_of (meaning t)
unfolding judge_one_of
one_judged t j h e = rw (count_of_subsystems t, eq-eqb t.count 1 h) e

pub one_refused : (t : Table) → (t.count ≡ 1 → ⊥) → refused Counts (place 0 0) ≡ judge_one_of (meaning t)
unfolding judge_one_of
one_refused t h = rw (count_of_subsystems t, ne_eqb t.count 1 h)
