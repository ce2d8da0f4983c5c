-- `asked::job_end` meets its contract. Assumes nothing.
use mathlib.Core.Path.{sym, ◌∙◌}
use Rattle.table.proofs.GridLaws.{blank_blocks}
use Rattle.rules.proofs.OrderLaws.{refusal_stands, counts_first, has_room}
use Rattle.asked.proofs.JobsLaws.{refused_ends}
use Rattle.asked.proofs.job_end.Goals as goal

pub returns-in_default : goal.returns-in_default
returns-in_default c =
    refused_ends _ c.args.k c.args.l c.args.s (refusal_stands _ _ _ _ _ c.judge_counts.ensures c.in_default.is ∙ counts_first _) c.in_default.is

pub lay_out-requires : goal.lay_out-requires
lay_out-requires c =
    (has_room _ (sym c.judge_counts.ensures ∙ c.in-Ok.is), blank_blocks)
