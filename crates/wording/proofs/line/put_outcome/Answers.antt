-- `wording::line::put_outcome` meets its contract. Assumes nothing.
use mathlib.Core.Path.{sym, ap}
use Rattle.lines.specs.Words.{word}
use Rattle.lines.proofs.PutsLaws.{puts_same}
use Rattle.wording.specs.Lines.{outcome_word}
use Rattle.wording.proofs.line.put_outcome.Goals as goal

pub returns-in-Fits : goal.returns-in-Fits
unfolding word
returns-in-Fits c =
    puts_same (sym (ap outcome_word c.in-Fits.is)) c.put_bytes.ensures

pub returns-in-Late : goal.returns-in-Late
unfolding word
returns-in-Late c =
    puts_same (sym (ap outcome_word c.in-Late.is)) c.put_bytes-in-Late.ensures

pub returns-in-None : goal.returns-in-None
unfolding word
returns-in-None c =
    puts_same (sym (ap outcome_word c.in-None.is)) c.put_bytes-in-None.ensures
