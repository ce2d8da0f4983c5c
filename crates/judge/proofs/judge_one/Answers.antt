-- `judge::judge_one` meets its contract. Assumes nothing.
use mathlib.Core.Path.{◌∙◌}
use Rattle.rules.proofs.OrderLaws.{one_judged, one_refused}
use Rattle.judge.proofs.judge_one.Goals as goal

pub returns-then-t-eq1 : goal.returns-then-t-eq1
returns-then-t-eq1 c =
    one_judged c.args.t _ c.if-t-eq1.true c.judge.ensures

pub returns : goal.returns
returns c =
    c.refused.ensures ∙ one_refused c.args.t c.if-t-eq1.false
