-- `offsets::figures::put_head` meets its contract: the five numbers in a row are the head's. Assumes nothing.
use Rattle.offsets.proofs.FigureLaws.{head_is_put}
use Rattle.offsets.proofs.figures.put_head.Goals as goal

pub returns : goal.returns
returns c =
    head_is_put c.args.free.now _ _ c.args.j c.args.accepted c.args.n _ c.flag_number.ensures c.put_numbers.ensures
