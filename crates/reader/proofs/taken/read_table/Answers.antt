-- `reader::taken::read_table` meets its contract: the table is taken out of the grid that was read. Assumes nothing.
use mathlib.Core.Path.{refl}
use Rattle.table.proofs.GridLaws.{blank_blocks}
use Rattle.reader.proofs.WholeGrids.{head_fits, whole_is_read, refused_is_read}
use Rattle.reader.proofs.taken.read_table.Goals as goal

pub read_grid-requires : goal.read_grid-requires
read_grid-requires c =
    blank_blocks

pub table_of-requires : goal.table_of-requires
table_of-requires c =
    let fits = head_fits _ _ c.read_grid.result c.read_grid.ensures c.in-Ok.head c.in-Ok.is in
    (fits.0, (fits.1, fits.2))

pub returns-in-Ok : goal.returns-in-Ok
returns-in-Ok c =
    whole_is_read _ _ c.read_grid.result c.read_grid.ensures c.in-Ok.head c.in-Ok.is c.table_of.result c.table_of.ensures

pub returns-in-Err : goal.returns-in-Err
returns-in-Err c =
    refused_is_read _ _ c.read_grid.result c.read_grid.ensures c.in-Err.misread _ c.in-Err.is (rw c.zeros.ensures refl)
