-- `text::put_verdict` meets its contract. Assumes nothing.
use mathlib.Core.Path.{sym, ap}
use Rattle.lines.specs.Words.{word}
use Rattle.lines.proofs.PutsLaws.{puts_same}
use Rattle.wording.specs.Lines.{verdict}
use Rattle.text.proofs.put_verdict.Goals as goal

pub returns-then-accepted : goal.returns-then-accepted
unfolding word
returns-then-accepted c =
    puts_same (sym (ap verdict c.if-accepted.true)) c.put_bytes.ensures

pub returns-else-accepted : goal.returns-else-accepted
unfolding word
returns-else-accepted c =
    puts_same (sym (ap verdict c.if-accepted.false)) c.put_bytes-else-accepted.ensures
