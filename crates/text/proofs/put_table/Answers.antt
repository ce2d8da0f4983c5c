-- `text::put_table` meets its contract. Assumes nothing.
use Rattle.lines.proofs.PutsLaws.{puts_same}
use Rattle.text.proofs.TextLaws.{count_if_admitted, text_of_grid}
use Rattle.text.proofs.put_table.Goals as goal

pub put_report-requires : goal.put_report-requires
put_report-requires c =
    let laid = c.args.laid.now in
    record { n_le_most = count_if_admitted laid.n laid.m laid.grid.now _ c.report_of-report.ensures; text_room_in_bounds = c.requires }

pub returns : goal.returns
returns c =
    let laid = c.args.laid.now in
    puts_same (text_of_grid laid.n laid.m laid.grid.now _ c.report_of-report.ensures) c.put_report.ensures
