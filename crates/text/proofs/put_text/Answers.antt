-- `text::put_text` meets its contract. Assumes nothing.
use native.Mathlib.Omega.{arith}
use Rattle.lines.proofs.PutsLaws.{puts_same}
use Rattle.reader.proofs.WholeGrids.{grid_means_table, grid_counts_pass}
use Rattle.stored.proofs.OffsetLaws.{offset_fits}
use Rattle.text.proofs.TextLaws.{answer_given, text_of_refused_file, text_of_read_file}
use Rattle.text.proofs.put_text.Goals as goal

pub put_refused_file-requires : goal.put_refused_file-requires
put_refused_file-requires c =
    (offset_fits c.args.file.now _ _ (answer_given _ _ _ c.read_grid.ensures _ c.in-Err.is) c.file_refusal.ensures, omega arith)

pub returns-in-Err-clause-wrote : goal.returns-in-Err-clause-wrote
returns-in-Err-clause-wrote c =
    puts_same (text_of_refused_file _ _ _ c.read_grid.ensures _ _ c.in-Err.is c.file_refusal.ensures) c.put_refused_file.ensures

pub invariant_of-laid : goal.invariant_of-laid
invariant_of-laid c =
    record { counted = grid_counts_pass _ _ _ c.read_grid.ensures _ c.in-Ok.is _ _ c.from.ensures c.from-in-Ok.ensures }

pub returns-in-Ok-clause-wrote : goal.returns-in-Ok-clause-wrote
returns-in-Ok-clause-wrote c =
    let means = grid_means_table _ _ _ c.read_grid.ensures _ c.in-Ok.is _ _ c.from.ensures c.from-in-Ok.ensures in
    puts_same (text_of_read_file _ _ _ c.read_grid.ensures _ c.in-Ok.is _ means) c.put_table.ensures
