-- `offsets::judging::judge_file` meets its contract. Assumes nothing.
use mathlib.Core.Path.{sym, ap}
use Rattle.table.proofs.GridLaws.{blank_blocks}
use Rattle.reader.specs.Reader.{answer_by}
use Rattle.reader.proofs.WholeGrids.{grid_means_table, grid_counts_pass}
use Rattle.stored.proofs.OffsetLaws.{offset_fits}
use Rattle.offsets.proofs.JudgementLaws.{answer_of, judgement_of_refused, judgement_of_read}
use Rattle.offsets.proofs.judging.judge_file.Goals as goal

pub read_grid-requires : goal.read_grid-requires
read_grid-requires c =
    blank_blocks

pub file_judgement-requires : goal.file_judgement-requires
file_judgement-requires c =
    let answer = answer_of _ _ c.read_grid.ensures.answer_is _ (ap answer_by c.in-Err.is) in
    offset_fits _ _ _ (sym answer) c.file_refusal.ensures

pub returns-in-Err : goal.returns-in-Err
returns-in-Err c =
    judgement_of_refused _ _ c.read_grid.ensures.answer_is _ _ _ (ap answer_by c.in-Err.is) c.file_refusal.ensures c.file_judgement.ensures

pub invariant_of-laid : goal.invariant_of-laid
invariant_of-laid c =
    record { counted = grid_counts_pass _ _ _ c.read_grid.ensures _ c.in-Ok.is _ _ c.from.ensures c.from-in-Ok.ensures }

pub returns-in-Ok : goal.returns-in-Ok
returns-in-Ok c =
    let means = grid_means_table _ _ _ c.read_grid.ensures _ c.in-Ok.is _ _ c.from.ensures c.from-in-Ok.ensures in
    judgement_of_read _ _ c.read_grid.ensures.answer_is _ _ _ (ap answer_by c.in-Ok.is) means c.judge_grid.ensures.value c.table_judgement.ensures
