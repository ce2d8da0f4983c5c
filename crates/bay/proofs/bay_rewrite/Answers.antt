-- `bay::bay_rewrite` meets its contract, for a file that is refused and for one that is a table. Assumes nothing.
use Rattle.bay.proofs.LentLaws.{refused_rewrite, read_rewrite}
use Rattle.bay.proofs.bay_rewrite.Goals as goal

pub returns-in_default : goal.returns-in_default
returns-in_default c =
    let refused = refused_rewrite c.args.file.now _ c.read_table-reading.ensures c.args.buf.now _ c.in_default.is in
    record { value = refused.0; buf_after = refused.1 }

pub returns : goal.returns
returns c =
    let read = read_rewrite c.args.file.now _ c.read_table-reading.ensures c.args.buf.now _ _ _ c.in-Ok.is c.write_table.ensures.value c.write_table.ensures.buf_after c.unwrap_or.ensures in
    record { value = read.0; buf_after = read.1 }
