-- Laws of the search for the first offender over the subsystems, and of the two rules that look at a subsystem's own place
-- alone, 1 and 5. Assumes nothing.
use Prim.Native.Nat.{ℕ, zero, suc, ◌+◌, ◌-◌, ◌≤◌, ◌<◌}
use native.Mathlib.Nat.{sub-zero}
use native.Mathlib.Omega.{arith}
use mathlib.Core.Path.{◌≡◌, refl, sym, ap, ◌∙◌}
use mathlib.Core.Bool.{Bool, true, false}
use mathlib.Core.Option.{none, some, map}
use mathlib.Core.List.{List}
use lib.ListN.{get_or}
use Rattle.lists.specs.Range.{first_of}
use Rattle.lists.proofs.First.{first_such_is, first_such_nowhere, first_of_here, first_of_next, first_of_over}
use Rattle.table.specs.declared.Table.{Table}
use Rattle.table.specs.Meaning.{TaskM, SubsystemM, System, subsystem_m, past_subsystems, meaning}
use Rattle.table.specs.Parts.{task_count, task_of, subsystem_count}
use Rattle.table.specs.Grid.{subsystem_in, block_in, system_in}
use Rattle.table.proofs.Parts.{count_of_tasks, subsystem_of_slot}
use Rattle.table.proofs.GridLaws.{subsystem_of_grid}
use Rattle.rules.specs.declared.Rule.{Rule}
use Rattle.rules.specs.declared.Rule.TheVariants.{Counts, Overrun}
use Rattle.rules.specs.declared.Place.{Place}
use Rattle.rules.specs.Judged.{admitted, refused}
use Rattle.rules.specs.Rules.{count_out, subsystem_breaks, task_breaks, place_breaks, offender_in, offender_at, offender, place, refused_at, judged_by}

module _ (sys : System) (k : Rule) (n : ℕ) where
  -- The search has passed the subsystems below s.
  unfoldable pub OffendersFrom : ℕ → Type 0
  OffendersFrom s = judged_by sys k ≡ refused_at k (first_of (offender_at sys k) (n - s) s)

  pub offenders_from_zero : subsystem_count sys ≡ n → OffendersFrom 0
  unfolding OffendersFrom judged_by offender
  offenders_from_zero e = rw (e, sub-zero) refl

  pub offender_here : (s : ℕ) (p : Place) → s < n → offender_at sys k s ≡ some p → OffendersFrom s → refused k p ≡ judged_by sys k
  unfolding OffendersFrom
  offender_here s p h e q = sym (q ∙ ap (refused_at k) (first_of_here (offender_at sys k) n s p h e))

  pub offenders_next : (s : ℕ) → s < n → offender_at sys k s ≡ none → OffendersFrom s → OffendersFrom (s + 1)
  unfolding OffendersFrom
  offenders_next s h e q = q ∙ ap (refused_at k) (first_of_next (offender_at sys k) n s h e)

  pub offenders_over : (s : ℕ) → n ≤ s → OffendersFrom s → admitted ≡ judged_by sys k
  unfolding OffendersFrom
  offenders_over s h q = sym (q ∙ ap (refused_at k) (first_of_over (offender_at sys k) n s h))

------------------------------------------------------------------------
-- The offender of one subsystem, in a table and in a grid

pub offender_of_slot :
    (t : Table) (k : Rule) (s : ℕ) → s < t.count →
    offender_at (meaning t) k s ≡ map (place (s + 1)) (offender_in t.resources k (subsystem_m t.resources (get_or t.subsystems s past_subsystems)))
unfolding offender_at meaning
offender_of_slot t k s h = ap (λ (u : SubsystemM). map (place (s + 1)) (offender_in t.resources k u)) (subsystem_of_slot t s h)

pub offender_of_block :
    (n m : ℕ) (grid : List (List (List ℕ))) (k : Rule) (s : ℕ) → s < n →
    offender_at (system_in n m grid) k s ≡ map (place (s + 1)) (offender_in m k (subsystem_in m (block_in grid s)))
unfolding offender_at system_in
offender_of_block n m grid k s h = ap (λ (u : SubsystemM). map (place (s + 1)) (offender_in m k u)) (subsystem_of_grid n m grid s h)

------------------------------------------------------------------------
-- A rule that no task breaks looks at the subsystem's own place alone

module _ (m : ℕ) (k : Rule) (never : (t : TaskM) → task_breaks m k t ≡ false) (u : SubsystemM) where
  own_here : subsystem_breaks m k u ≡ true → offender_in m k u ≡ some 0
  unfolding offender_in place_breaks
  own_here e =
      first_such_is (place_breaks m k u) (suc (task_count u)) 0 0
      (record { from = omega arith; within = omega arith; passes = e; before = λ y l h. absurd (omega arith) })

  nowhere : subsystem_breaks m k u ≡ false → (i : ℕ) → place_breaks m k u i ≡ false
  unfolding place_breaks
  nowhere e zero = e
  nowhere e (suc i) = never (task_of u i)

  pub own_nowhere : subsystem_breaks m k u ≡ false → offender_in m k u ≡ none
  unfolding offender_in
  own_nowhere e = first_such_nowhere (place_breaks m k u) (suc (task_count u)) 0 (λ y l h. nowhere e y)

pub no_task_counts : (m : ℕ) (t : TaskM) → task_breaks m Counts t ≡ false
unfolding task_breaks
no_task_counts m t = refl

no_task_overruns : (m : ℕ) (t : TaskM) → task_breaks m Overrun t ≡ false
unfolding task_breaks
no_task_overruns m t = refl

-- Rule 1 on a slot of a table.
module _ (t : Table) (s : ℕ) (h : s < t.count) (b : Bool) (e : b ≡ count_out (get_or t.subsystems s past_subsystems).count) where
  by_count : subsystem_breaks t.resources Counts (subsystem_m t.resources (get_or t.subsystems s past_subsystems)) ≡ b
  unfolding subsystem_breaks
  by_count = rw (count_of_tasks t.resources (get_or t.subsystems s past_subsystems)) (sym e)

  pub counts_here : b ≡ true → offender_at (meaning t) Counts s ≡ some (place (s + 1) 0)
  counts_here q = offender_of_slot t Counts s h ∙ ap (map (place (s + 1))) (own_here t.resources Counts (no_task_counts t.resources) _ (by_count ∙ q))

  pub counts_nowhere : b ≡ false → offender_at (meaning t) Counts s ≡ none
  counts_nowhere q = offender_of_slot t Counts s h ∙ ap (map (place (s + 1))) (own_nowhere t.resources Counts (no_task_counts t.resources) _ (by_count ∙ q))

-- Rule 5 on a block of a grid.
module _ (n m : ℕ) (grid : List (List (List ℕ))) (s : ℕ) (h : s < n) (b : Bool) (e : subsystem_breaks m Overrun (subsystem_in m (block_in grid s)) ≡ b) where
  pub overrun_here : b ≡ true → offender_at (system_in n m grid) Overrun s ≡ some (place (s + 1) 0)
  overrun_here q = offender_of_block n m grid Overrun s h ∙ ap (map (place (s + 1))) (own_here m Overrun (no_task_overruns m) _ (e ∙ q))

  pub overrun_nowhere : b ≡ false → offender_at (system_in n m grid) Overrun s ≡ none
  overrun_nowhere q = offender_of_block n m grid Overrun s h ∙ ap (map (place (s + 1))) (own_nowhere m Overrun (no_task_overruns m) _ (e ∙ q))
