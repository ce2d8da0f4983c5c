-- `offsets::figures::put_row` meets its contract: the nine numbers in a row are the row's. Assumes nothing.
use Rattle.offsets.proofs.FigureLaws.{row_is_put}
use Rattle.offsets.proofs.figures.put_row.Goals as goal

pub returns : goal.returns
returns c =
    row_is_put c.args.free.now _ _ c.args.row _ _ c.response.ensures c.outcome_number.ensures c.put_numbers.ensures
