-- `row::judge` meets its contract, by its test. Assumes nothing.
use native.Mathlib.Omega.{arith}
use borrow.Author.Tests.{le-leb, lt-leb}
use Rattle.row.specs.Row.{judged}
use Rattle.row.proofs.judge.Goals as goal

pub returns-then-response-period : goal.returns-then-response-period
unfolding judged
returns-then-response-period c =
    rw (le-leb c.args.response c.args.period (omega (arith, c.if-response-period.true)))

pub returns-else-response-period : goal.returns-else-response-period
unfolding judged
returns-else-response-period c =
    rw (lt-leb c.args.response c.args.period (omega (arith, c.if-response-period.false)))
