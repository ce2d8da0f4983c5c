-- Laws of filling in rows: the end of the giving, what the task test rests on, and that a turn fills in the next row.
-- Assumes nothing.
use Prim.Native.Nat.{ℕ, ◌+◌, ◌-◌, ◌≤◌, ◌<◌}
use native.Mathlib.Omega.{arith}
use mathlib.Core.Path.{◌≡◌, sym, ap, ap₂, ◌∙◌}
use mathlib.Core.List.{List}
use lib.ListN.{get_or, set}
use Rattle.lists.specs.Range.{padded}
use Rattle.lists.proofs.UpTo.{padded_turn, get_d_padded}
use Rattle.table.specs.Limits.{most}
use Rattle.table.specs.Meaning.{SubsystemM, System}
use Rattle.table.specs.Parts.{subsystem_count, subsystem_of}
use Rattle.table.specs.Grid.{period_in, budget_in, subsystem_in, block_in, system_in}
use Rattle.table.proofs.GridLaws.{count_of_grid, subsystem_of_grid}
use Rattle.holding.specs.Holding.{holding}
use Rattle.rules.specs.Admitted.{SoundSystem}
use Rattle.local.specs.Passing.{first_failing, giving_end}
use Rattle.local.specs.Ready.{Ready}
use Rattle.outer.specs.declared.ceilings.Common.{Common}
use Rattle.outer.specs.Interfaces.{InterfacesM}
use Rattle.outer.specs.Parts.{count, cost_of}
use Rattle.outer.specs.Common.{common_of}
use Rattle.row.specs.declared.Row.{Row}
use Rattle.row.specs.Row.{row_of}
use Rattle.rows.specs.Interfaces.{interfaces_from}
use Rattle.rows.specs.Rows.{failing_at, row_at, no_row}
use Rattle.rows.proofs.SoundLaws.{count_of_interfaces, budget_shown, overrun_shown}
use Rattle.rows.proofs.InterfaceLaws.{sound_slot}

-- The cost Q + X of subsystem s, as the rows share it.
cost_shown : (sys : System) (s : ℕ) → s < subsystem_count sys → cost_of (interfaces_from sys) s ≡ (subsystem_of sys s).budget + holding sys.resources (subsystem_of sys s)
unfolding cost_of
cost_shown sys s h = ap₂ ◌+◌ (budget_shown sys s h) (overrun_shown sys s h)

module _ (n m : ℕ) (grid : List (List (List ℕ))) (s : ℕ) (h : s < n) where
  abbrev sub : SubsystemM
  sub = subsystem_in m (block_in grid s)

  -- The cost in a slot of the list of costs that the rows share.
  cost_in_slot : (common : Common) (g : InterfacesM) → g ≡ interfaces_from (system_in n m grid) → common ≡ common_of g → get_or common.costs s 0 ≡ budget_in (block_in grid s) + holding m sub
  unfolding common_of system_in subsystem_in
  cost_in_slot common g e f =
      ap (λ (c : Common). get_or c.costs s 0) (f ∙ ap common_of e) ∙
      get_d_padded (cost_of (interfaces_from (system_in n m grid))) 0 0 most (count (interfaces_from (system_in n m grid))) s (rw (count_of_interfaces (system_in n m grid), count_of_grid n m grid) h) ∙
      cost_shown (system_in n m grid) s (rw (count_of_grid n m grid) h) ∙
      ap (λ (u : SubsystemM). u.budget + holding m u) (subsystem_of_grid n m grid s h)

  module _ (common : Common) (g : InterfacesM) (e : g ≡ interfaces_from (system_in n m grid)) (f : common ≡ common_of g) (p q : ℕ) (is-p : p ≡ period_in (block_in grid s)) (is-q : q ≡ budget_in (block_in grid s)) where
    -- The cost lies between the budget and the period.
    pub cost_from_budget : q ≤ get_or common.costs s 0
    cost_from_budget = omega (arith, is-q, cost_in_slot common g e f)

    pub cost_to_period : SoundSystem (system_in n m grid) → get_or common.costs s 0 ≤ p
    unfolding subsystem_in
    cost_to_period sound = omega (arith, is-p, cost_in_slot common g e f, (sound_slot n m grid s h sound).sound.fits)

    -- The end of the giving, from the cost.
    pub end_by_cost : p - (get_or common.costs s 0 - q) ≡ giving_end m sub
    unfolding giving_end subsystem_in
    end_by_cost = omega (arith, is-p, is-q, cost_in_slot common g e f)

    -- What the task test rests on.
    pub ready_by_cost : SoundSystem (system_in n m grid) → Ready (block_in grid s) m (p - (get_or common.costs s 0 - q))
    unfolding subsystem_in
    ready_by_cost sound =
        let slot = sound_slot n m grid s h sound in
        record {
          sound = slot.sound;
          resources_most = slot.resources_most;
          budget_by_end = omega (arith, is-p, is-q, cost_in_slot common g e f, slot.sound.fits);
          end_by_period = omega (arith, is-p);
        }

    -- The row in the next slot.
    pub row_filled :
        (failing : ℕ) (row : Row) (rows : List Row) → n ≤ most → failing ≡ first_failing m sub (p - (get_or common.costs s 0 - q)) →
        row ≡ row_of g s failing → rows ≡ padded (row_at (system_in n m grid)) no_row most s →
        set rows s row ≡ padded (row_at (system_in n m grid)) no_row most (s + 1)
    unfolding row_at failing_at system_in
    row_filled failing row rows few x r t =
        let here : failing ≡ failing_at (system_in n m grid) s =
        x ∙ ap (first_failing m sub) end_by_cost ∙
        ap (λ (u : SubsystemM). first_failing m u (giving_end m u)) (sym (subsystem_of_grid n m grid s h)) in
        padded_turn (row_at (system_in n m grid)) no_row most s (omega arith) rows row t
        (r ∙ ap₂ (λ (i : InterfacesM) (k : ℕ). row_of i s k) e here)
