-- `asked::end_in_grid` meets its contract. Assumes nothing.
use Prim.Native.Nat.{◌-◌}
use native.Mathlib.Nat.{pos_of_ne-zero}
use native.Mathlib.Omega.{arith}
use mathlib.Core.Path.{refl, sym, ap, ◌∙◌}
use Rattle.table.specs.Grid.{system_in}
use Rattle.table.proofs.GridLaws.{count_of_grid}
use Rattle.rules.proofs.Sound.{admitted_is_sound}
use Rattle.outer.specs.Interfaces.{InterfacesM}
use Rattle.outer.proofs.Slots.{some_of, few_of, few_resources_of}
use Rattle.job.specs.View.{view_of}
use Rattle.asked.specs.Jobs.{end_of}
use Rattle.rows.proofs.SoundLaws.{count_of_interfaces}
use Rattle.rows.proofs.InterfaceLaws.{sound_lines}
use Rattle.asked.proofs.JobsLaws.{refused_ends, subsystem_0, past_subsystems_lem, ends_in}
use Rattle.asked.proofs.end_in_grid.Goals.{then-s-eq0-via-then-s-eq0, then-s-eq0-via-else-s-eq0+then-n-s}
use Rattle.asked.proofs.end_in_grid.Goals as goal

pub returns-in_default : goal.returns-in_default
returns-in_default c =
    refused_ends _ c.args.k c.args.l c.args.s c.judge_grid.ensures.value c.in_default.is

pub returns-then-s-eq0 : goal.returns-then-s-eq0
returns-then-s-eq0 c =
    (elim c.then-s-eq0.branch [
      | then-s-eq0-via-then-s-eq0 w ↦ subsystem_0 _ c.args.k c.args.l c.judge_grid.ensures.value c.in-Ok.is c.args.s w.if-s-eq0.true
      | then-s-eq0-via-else-s-eq0+then-n-s w ↦ past_subsystems_lem _ c.args.k c.args.l c.judge_grid.ensures.value c.in-Ok.is c.args.s (omega (arith, count_of_interfaces (system_in c.args.laid.now.n c.args.laid.now.m c.args.laid.now.grid.now), count_of_grid c.args.laid.now.n c.args.laid.now.m c.args.laid.now.grid.now, w.if-n-s.true))
    ])

pub interfaces_of-requires : goal.interfaces_of-requires
interfaces_of-requires c =
    record { sound_system = admitted_is_sound _ (sym c.judge_grid.ensures.value ∙ c.in-Ok.is); held_in = c.judge_grid.ensures.held_in c.in-Ok.is; lines_len = refl }

pub invariant_of-shown : goal.invariant_of-shown
invariant_of-shown c =
    let sound = sound_lines _ _ _ _ c.interfaces_of.ensures (admitted_is_sound _ (sym c.judge_grid.ensures.value ∙ c.in-Ok.is)) in
    record { some = some_of _ _ _ sound; few = few_of _ _ _ sound; few_resources = few_resources_of _ _ _ sound; sound = sound }

pub end_of-requires : goal.end_of-requires
end_of-requires c =
    omega (arith, pos_of_ne-zero c.if-s-eq0.false, c.if-n-s.false)

pub returns : goal.returns
returns c =
    let sys = system_in c.args.laid.now.n c.args.laid.now.m c.args.laid.now.grid.now in
    ends_in sys c.args.k c.args.l c.judge_grid.ensures.value c.in-Ok.is c.args.s (pos_of_ne-zero c.if-s-eq0.false)
    (omega (arith, count_of_interfaces sys, count_of_grid c.args.laid.now.n c.args.laid.now.m c.args.laid.now.grid.now, c.if-n-s.false))
    (c.end_of.ensures ∙ ap (λ (g : InterfacesM). end_of (view_of g (c.args.s - 1)) c.args.k c.args.l) c.interfaces_of.ensures)
