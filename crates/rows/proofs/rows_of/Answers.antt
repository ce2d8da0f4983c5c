use native.Mathlib.Omega.{arith}
use mathlib.Core.Path.{sym, ◌∙◌}
use Rattle.lists.proofs.UpTo.{padded_none}
use Rattle.outer.proofs.Slots.{some_of, few_of, few_resources_of}
use Rattle.rows.proofs.InterfaceLaws.{few_subsystems, held_slot, sound_lines, sound_slot, slot_counted}
use Rattle.rows.proofs.RowsLaws.{cost_from_budget, cost_to_period, ready_by_cost, row_filled}
use Rattle.job.proofs.LentLaws as lent
use Rattle.rows.proofs.rows_of.Goals as goal

pub invariant_of-shown : goal.invariant_of-shown
invariant_of-shown c =
    let sound = sound_lines _ _ _ _ c.interfaces_of.ensures c.requires.sound_system in
    record { some = some_of _ _ _ sound; few = few_of _ _ _ sound; few_resources = few_resources_of _ _ _ sound; sound = sound }

pub invariant_of-part : goal.invariant_of-part
invariant_of-part c =
    record { counted = slot_counted _ _ (sound_slot c.args.n c.args.m c.args.grid.now c.loop-s.s c.loop-s-test.true c.requires.sound_system) }

pub fitting_of-fits-requires : goal.fitting_of-fits-requires
fitting_of-fits-requires c =
    let sound = sound_lines _ _ _ _ c.interfaces_of.ensures c.requires.sound_system in
    record { loads = lent.all_lent c.args.n c.args.m _ _ sound c.in_common-common.ensures; n_in_bounds = (lent.periods_long c.args.n c.args.m _ _ sound c.in_common-common.ensures, lent.costs_long c.args.n c.args.m _ _ sound c.in_common-common.ensures) }

pub loop-s-init : goal.loop-s-init
loop-s-init c =
    ((few_subsystems _ _ _ c.requires.sound_system).0, rw c.no_row-rows.ensures (sym (padded_none _ _ _)))

pub overflow_sub-end : goal.overflow_sub-end
overflow_sub-end c =
    cost_from_budget c.args.n c.args.m c.args.grid.now c.loop-s.s c.loop-s-test.true _ _ c.interfaces_of.ensures c.in_common-common.ensures _ _ c.period.ensures c.budget.ensures

pub overflow_sub-end-in-loop-s : goal.overflow_sub-end-in-loop-s
overflow_sub-end-in-loop-s c =
    omega (arith, cost_to_period c.args.n c.args.m c.args.grid.now c.loop-s.s c.loop-s-test.true _ _ c.interfaces_of.ensures c.in_common-common.ensures _ _ c.period.ensures c.budget.ensures c.requires.sound_system)

pub first_failing_task-failing-requires : goal.first_failing_task-failing-requires
first_failing_task-failing-requires c =
    record { ready = ready_by_cost c.args.n c.args.m c.args.grid.now c.loop-s.s c.loop-s-test.true _ _ c.interfaces_of.ensures c.in_common-common.ensures _ _ c.period.ensures c.budget.ensures c.requires.sound_system; held_value = held_slot c.args.n c.args.m c.args.grid.now c.loop-s.s c.loop-s-test.true c.args.holdings.now c.requires.held_in }

pub row_of-requires : goal.row_of-requires
row_of-requires c =
    let sound = sound_lines _ _ _ _ c.interfaces_of.ensures c.requires.sound_system in
    record { s_lt_n = c.loop-s-test.true; lent = lent.parts_lent c.args.n c.args.m _ _ sound c.in_common-common.ensures; frees = lent.frees_lent c.args.n c.args.m _ _ sound c.in_common-common.ensures c.loop-s.s c.loop-s-test.true; blocked_value = (lent.blocking_lent c.args.n c.args.m _ _ sound c.in_common-common.ensures c.loop-s.s c.loop-s-test.true, c.fitting_of-fits.ensures) }

pub loop-s-preserved : goal.loop-s-preserved
loop-s-preserved c =
    (c.loop-s.invariant.0, row_filled c.args.n c.args.m c.args.grid.now c.loop-s.s c.loop-s-test.true _ _ c.interfaces_of.ensures c.in_common-common.ensures _ _ c.period.ensures c.budget.ensures _ _ _ c.loop-s.invariant.0 (c.from.ensures ∙ c.first_failing_task-failing.ensures) c.row_of.ensures c.loop-s.invariant.1)
