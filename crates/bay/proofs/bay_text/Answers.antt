-- `bay::bay_text` meets its contract: it answers what the text's own function does. Assumes nothing.
use Rattle.bay.proofs.LentLaws.{text_is_printed}
use Rattle.bay.proofs.bay_text.Goals as goal

pub returns : goal.returns
returns c =
    record { value = text_is_printed c.args.file.now c.args.buf.now _ _ _ c.check_text.ensures c.unwrap_or.ensures; buf_after = c.check_text.ensures.left }
