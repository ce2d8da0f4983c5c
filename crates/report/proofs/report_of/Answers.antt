-- `report::report_of` meets its contract. Assumes nothing.
use mathlib.Core.Path.{sym, ◌∙◌}
use Rattle.table.specs.Grid.{system_in}
use Rattle.table.proofs.GridLaws.{count_of_grid}
use Rattle.rules.proofs.Sound.{admitted_is_sound}
use Rattle.rows.proofs.InterfaceLaws.{few_subsystems}
use Rattle.report.proofs.ReportLaws.{refused_report, admitted_report}
use Rattle.report.proofs.report_of.Goals as goal

pub returns-in-Err : goal.returns-in-Err
returns-in-Err c =
    refused_report _ _ _ _ c.judge_grid.ensures.value c.in-Err.is c.without_figures.ensures

pub rows_of-rows-requires : goal.rows_of-rows-requires
rows_of-rows-requires c =
    record { sound_system = admitted_is_sound _ (sym c.judge_grid.ensures.value ∙ c.in_default.is); held_in = c.judge_grid.ensures.held_in c.in_default.is }

pub all_accepted-accepted-requires : goal.all_accepted-accepted-requires
all_accepted-accepted-requires c =
    let laid = c.args.laid.now in
    (few_subsystems laid.n laid.m laid.grid.now (admitted_is_sound _ (sym c.judge_grid.ensures.value ∙ c.in_default.is))).0

pub returns : goal.returns
returns c =
    let laid = c.args.laid.now in
    admitted_report (system_in laid.n laid.m laid.grid.now) _ _ _ _ c.judge_grid.ensures.value c.in_default.is (count_of_grid _ _ _) c.rows_of-rows.ensures c.all_accepted-accepted.ensures
