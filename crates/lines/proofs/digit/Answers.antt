-- `lines::digit` meets its contract. Assumes nothing.
use Rattle.lines.specs.Decimal.{digit_byte}
use borrow.Author.Rules.{rules}
use Rattle.lines.proofs.digit.Goals as goal

pub returns : goal.returns
unfolding digit_byte
returns c =
    search rules
