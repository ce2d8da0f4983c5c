-- The interfaces of an admitted table are sound, and show what the subsystems have. Assumes nothing.
use Prim.Native.Nat.{ℕ, ◌<◌}
use mathlib.Core.Path.{◌≡◌, ap, ◌∙◌}
use lib.ListN.{get_or}
use Rattle.lists.proofs.Over.{largest_to_ext}
use Rattle.lists.proofs.UpTo.{get_d_up_to, length_up_to}
use Rattle.table.specs.Meaning.{System}
use Rattle.table.specs.Parts.{subsystem_count, subsystem_of}
use Rattle.holding.specs.Holding.{resource_holding, holding}
use Rattle.rules.specs.Admitted.{SoundSystem}
use Rattle.outer.specs.Interfaces.{InterfaceM}
use Rattle.outer.specs.Parts.{no_interface, count, interface_of, period_of, budget_of, holding_of, holding as overrunOf}
use Rattle.outer.specs.Sound.{Sound}
use Rattle.rows.specs.Interfaces.{interface_from, interface_at, interfaces_from}

module _ (sys : System) where
  pub count_of_interfaces : count (interfaces_from sys) ≡ subsystem_count sys
  unfolding count interfaces_from
  count_of_interfaces = length_up_to (interface_at sys) (subsystem_count sys)

  module _ (s : ℕ) (h : s < subsystem_count sys) where
    shown : interface_of (interfaces_from sys) s ≡ interface_from sys.resources (subsystem_of sys s)
    unfolding interface_of interfaces_from interface_at
    shown = get_d_up_to (interface_at sys) (subsystem_count sys) s no_interface h

    pub period_shown : period_of (interfaces_from sys) s ≡ (subsystem_of sys s).period
    unfolding period_of interface_from
    period_shown = ap (λ (i : InterfaceM). i.period) shown

    pub budget_shown : budget_of (interfaces_from sys) s ≡ (subsystem_of sys s).budget
    unfolding budget_of interface_from
    budget_shown = ap (λ (i : InterfaceM). i.budget) shown

    pub holding_shown : (l : ℕ) → l < sys.resources → holding_of (interfaces_from sys) s l ≡ resource_holding (subsystem_of sys s) l
    unfolding holding_of interface_from
    holding_shown l k =
        ap (λ (i : InterfaceM). get_or i.holdings l 0) shown ∙
        get_d_up_to (resource_holding (subsystem_of sys s)) sys.resources l 0 k

    pub overrun_shown : overrunOf (interfaces_from sys) s ≡ holding sys.resources (subsystem_of sys s)
    unfolding overrunOf holding interfaces_from
    overrun_shown = largest_to_ext (holding_of (interfaces_from sys) s) (resource_holding (subsystem_of sys s)) sys.resources holding_shown

  -- What the rules left of the table holds of its interfaces.
  pub interfaces_sound : SoundSystem sys → Sound (interfaces_from sys)
  unfolding interfaces_from
  interfaces_sound sound =
      record {
        some_subsystem = rw count_of_interfaces sound.subsystems_least;
        few_subsystems = rw count_of_interfaces sound.subsystems_most;
        few_resources = sound.resources_most;
        period_small = λ s h. let k : s < subsystem_count sys = rw (← count_of_interfaces) h in rw (period_shown s k) (sound.subsystem s k).period_most;
        budget_pos = λ s h. let k : s < subsystem_count sys = rw (← count_of_interfaces) h in rw (budget_shown s k) (sound.subsystem s k).budget_least;
        fits =
            λ s h.
            let k : s < subsystem_count sys = rw (← count_of_interfaces) h in
            rw (period_shown s k, budget_shown s k, overrun_shown s k) (sound.subsystem s k).fits;
      }
