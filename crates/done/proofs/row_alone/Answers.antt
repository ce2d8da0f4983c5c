-- `done::row_alone` meets its contract: job 0 is not done within the horizon, or the jobs tell. Assumes nothing.
use native.Mathlib.Omega.{arith}
use mathlib.Core.Path.{◌∙◌}
use Rattle.search.proofs.AnswerLaws.{some_found, none_found}
use Rattle.row.proofs.RowLaws.{budget_below, overrun_computed, row_without_lem}
use Rattle.done.proofs.DoneLaws.{ends_done_alone}
use Rattle.done.proofs.OnTheWayLaws.{first_after, first_is_done, never_done}
use Rattle.done.proofs.row_alone.Goals as goal

pub overflow_sub-held : goal.overflow_sub-held
overflow_sub-held c =
    budget_below _ c.args.seen.now.sound

pub least_after-requires-clause-after : goal.least_after-requires-clause-after
least_after-requires-clause-after c =
    first_after _ c.args.seen.now.sound c.requires.first_end (overrun_computed _ c.args.seen.now.sound) c.args.seen.now.free

pub row_without-requires : goal.row_without-requires
row_without-requires c =
    budget_below _ c.args.seen.now.sound

pub returns-in_default : goal.returns-in_default
returns-in_default c =
    c.row_without.ensures ∙
    row_without_lem _ c.args.seen.now.own.failing (overrun_computed _ c.args.seen.now.sound) (never_done _ c.args.seen.now.sound c.requires.first_end (overrun_computed _ c.args.seen.now.sound) (none_found c.in_default.ensures.found) (omega arith))

pub row_by_jobs-requires : goal.row_by_jobs-requires
row_by_jobs-requires c =
    record { ends_done = ends_done_alone _ c.requires.alone; first_done = first_is_done _ c.args.seen.now.sound c.requires.first_end (overrun_computed _ c.args.seen.now.sound) (some_found c.in-Some.ensures.found) c.in-Some.ensures.found.within c.least_after.ensures.ends_len_unchanged }
