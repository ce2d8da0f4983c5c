-- `offsets::figures::put_file` meets its contract. Assumes nothing.
use mathlib.Core.Path.{sym, ap, ◌∙◌}
use mathlib.Core.List.{flat_map}
use Rattle.table.proofs.GridLaws.{blank_blocks, count_of_grid}
use Rattle.stored.specs.File.{number_bytes}
use Rattle.stored.proofs.WriteSteps.{put_the_same}
use Rattle.reader.specs.Reader.{answer_by}
use Rattle.reader.proofs.WholeGrids.{grid_means_table, grid_counts_pass}
use Rattle.stored.proofs.OffsetLaws.{offset_fits}
use Rattle.offsets.proofs.JudgementLaws.{answer_of}
use Rattle.offsets.proofs.ReadLaws.{refused_figures, read_figures}
use Rattle.offsets.proofs.figures.put_file.Goals as goal

pub read_grid-requires : goal.read_grid-requires
read_grid-requires c =
    blank_blocks

pub file_judgement-j-requires : goal.file_judgement-j-requires
file_judgement-j-requires c =
    let answer = answer_of _ _ c.read_grid.ensures.answer_is _ (ap answer_by c.in-Err.is) in
    offset_fits _ _ _ (sym answer) c.file_refusal.ensures

pub returns-in-Err : goal.returns-in-Err
returns-in-Err c =
    put_the_same _ _ _ _ _
    (ap (flat_map number_bytes) (refused_figures _ _ c.read_grid.ensures.answer_is _ _ _ _ (ap answer_by c.in-Err.is) c.file_refusal.ensures c.file_judgement-j.ensures c.no_row.ensures))
    c.put_figures.ensures

pub invariant_of-laid : goal.invariant_of-laid
invariant_of-laid c =
    record { counted = grid_counts_pass _ _ _ c.read_grid.ensures _ c.in-Ok.is _ _ c.from.ensures c.from-in-Ok.ensures }

pub returns-in-Ok : goal.returns-in-Ok
returns-in-Ok c =
    let means = grid_means_table _ _ _ c.read_grid.ensures _ c.in-Ok.is _ _ c.from.ensures c.from-in-Ok.ensures in
    put_the_same _ _ _ _ _
    (ap (flat_map number_bytes) (read_figures _ _ c.read_grid.ensures.answer_is _ _ _ (ap answer_by c.in-Ok.is) means c.report_of.ensures (sym (count_of_grid _ _ _ ∙ c.from.ensures))))
    c.put_report.ensures
