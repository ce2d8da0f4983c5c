-- `printing::print_text` meets its contract. Assumes nothing.
use Rattle.table.proofs.GridLaws.{blank_blocks}
use Rattle.printing.proofs.print_text.Goals as goal

pub print_text_in-requires : goal.print_text_in-requires
print_text_in-requires g c =
    blank_blocks
