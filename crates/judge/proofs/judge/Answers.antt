-- `judge::judge` meets its contract. Assumes nothing.
use Rattle.std.proofs.Common.{rules}
use mathlib.Core.Path.{◌≡◌, sym, ◌∙◌}
use Rattle.table.proofs.GridLaws.{blank_blocks}
use Rattle.rules.proofs.OrderLaws.{refusal_stands, counts_first, has_room, laid_out_passes}
use Rattle.judge.proofs.judge.Goals as goal

pub returns-in_err-judge_counts : goal.returns-in_err-judge_counts
returns-in_err-judge_counts c =
    let same : c.from_residual.result ≡ c.judge_counts.result = search rules in
    same ∙ refusal_stands _ _ _ _ _ c.judge_counts.ensures c.in_err-judge_counts.was ∙ counts_first _

pub lay_out-requires : goal.lay_out-requires
lay_out-requires c =
    (has_room _ (sym c.judge_counts.ensures ∙ c.in_ok-judge_counts.was), blank_blocks)

pub invariant_of-laid : goal.invariant_of-laid
invariant_of-laid c =
    record { counted = laid_out_passes _ _ c.lay_out.ensures _ _ c.from.ensures c.from-2.ensures _ c.judge_counts.ensures c.in_ok-judge_counts.was }
