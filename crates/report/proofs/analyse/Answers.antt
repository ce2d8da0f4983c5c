-- `report::analyse` meets its contract. Assumes nothing.
use mathlib.Core.Path.{sym, ap, ◌∙◌}
use Rattle.table.proofs.GridLaws.{blank_blocks}
use Rattle.rules.proofs.OrderLaws.{refusal_stands, counts_first, has_room, laid_out_means, laid_out_passes}
use Rattle.report.specs.Report.{report_of}
use Rattle.report.proofs.ReportLaws.{refused_report}
use Rattle.report.proofs.analyse.Goals as goal

pub returns-in-Err : goal.returns-in-Err
returns-in-Err c =
    refused_report _ _ _ _ (refusal_stands _ _ _ _ _ c.judge_counts.ensures c.in-Err.is ∙ counts_first _) c.in-Err.is c.without_figures.ensures

pub lay_out-requires : goal.lay_out-requires
lay_out-requires c =
    (has_room _ (sym c.judge_counts.ensures ∙ c.in_default.is), blank_blocks)

pub invariant_of-laid : goal.invariant_of-laid
invariant_of-laid c =
    record { counted = laid_out_passes _ _ c.lay_out.ensures _ _ c.from.ensures c.from-2.ensures _ c.judge_counts.ensures c.in_default.is }

pub returns : goal.returns
returns c =
    c.report_of.ensures ∙ ap report_of (laid_out_means _ _ c.lay_out.ensures _ _ c.from.ensures c.from-2.ensures)
