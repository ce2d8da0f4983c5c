-- `global::active_row` meets its contract: its parts do. Assumes nothing.
use Rattle.job.specs.Ends.{jobs}
use Rattle.job.proofs.ActiveLaws.{period_pos, active_from}
use Rattle.row.proofs.RowLaws.{budget_below, overrun_computed, row_with_lem}
use mathlib.Core.Path.{refl, ◌∙◌}
use Rattle.global.proofs.active_row.Goals as goal

pub round_up-n-requires : goal.round_up-n-requires
round_up-n-requires c =
    (active_from _ c.args.seen.now.sound c.requires.own_value, period_pos _ c.args.seen.now.sound)

pub largest_response-worst-requires-clause-jobs : goal.largest_response-worst-requires-clause-jobs
unfolding jobs
largest_response-worst-requires-clause-jobs c =
    record { is_active = c.requires.own_value; all = c.round_up-n.ensures }

pub row_with-requires : goal.row_with-requires
row_with-requires c =
    budget_below _ c.args.seen.now.sound

pub returns : goal.returns
returns c =
    c.row_with.ensures ∙ row_with_lem _ c.args.seen.now.own.failing c.args.active (overrun_computed _ c.args.seen.now.sound) c.round_up-n.ensures c.largest_response-worst.ensures refl
