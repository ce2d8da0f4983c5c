-- `judge::judge_grid` meets its contract. Assumes nothing.
use Rattle.std.proofs.Common.{rules}
use mathlib.Core.Path.{◌≡◌, sym, ◌∙◌}
use Rattle.rules.proofs.OrderLaws.{refusal_stands, next_judges, past_counts}
use Rattle.rules.proofs.EarlierLaws.{rule_5_last}
use Rattle.judge.proofs.judge_grid.Goals as goal

pub returns-in_err-refused_in_order-clause-value : goal.returns-in_err-refused_in_order-clause-value
returns-in_err-refused_in_order-clause-value c =
    let same : c.from_residual.result ≡ c.refused_in_order.result = search rules in
    same ∙
    refusal_stands _ _ _ _ _ c.refused_in_order.ensures (c.in_err-refused_in_order.was) ∙ rule_5_last _ ∙ past_counts _ c.args.laid.now.counted

pub returns-clause-value : goal.returns-clause-value
returns-clause-value c =
    c.refused_by_overrun.ensures.value ∙
    sym (next_judges _ _ _ c.refused_in_order.ensures (c.in_ok-refused_in_order.was)) ∙
    rule_5_last _ ∙
    past_counts _ c.args.laid.now.counted
