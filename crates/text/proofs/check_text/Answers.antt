-- `text::check_text` meets its contract. Assumes nothing.
use Rattle.table.proofs.GridLaws.{blank_blocks}
use Rattle.text.proofs.check_text.Goals as goal

pub check_text_in-requires : goal.check_text_in-requires
check_text_in-requires c =
    blank_blocks

pub returns : goal.returns
returns c =
    c.check_text_in.ensures.printed
