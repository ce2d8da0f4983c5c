-- `offsets::figures::put_place` meets its contract: the two numbers in a row are the place. Assumes nothing.
use Rattle.offsets.specs.Judgement.{place_bytes}
use Rattle.offsets.proofs.figures.put_place.Goals as goal

pub returns : goal.returns
unfolding place_bytes
returns c =
    c.put_numbers.ensures
