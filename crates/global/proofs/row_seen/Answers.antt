-- `global::row_seen` meets its contract: it is known that there is no active period, or the first search finds no budget end; or nothing or
-- one resource alone is held, and the jobs tell; or the active period is searched for. Assumes nothing.
use mathlib.Core.Path.{◌∙◌}
use Rattle.search.proofs.AnswerLaws.{some_found, none_found}
use Rattle.row.proofs.RowLaws.{budget_below, overrun_computed, row_without_lem}
use Rattle.job.proofs.ResponseLaws.{no_overrun}
use Rattle.done.proofs.DoneLaws.{first_done_without, ends_done_without}
use Rattle.job.proofs.WaitLaws.{after_none, first_ahead, first_small, first_beyond, first_end}
use native.Mathlib.Omega.{arith}
use Rattle.global.proofs.row_seen.Goals as goal

pub row_without-requires : goal.row_without-requires
row_without-requires c =
    budget_below _ c.args.seen.now.sound

pub returns-then-fits-s : goal.returns-then-fits-s
returns-then-fits-s c =
    c.row_without.ensures ∙ row_without_lem _ c.args.seen.now.own.failing (overrun_computed _ c.args.seen.now.sound) (c.requires.own_value c.if-fits-s.true)

pub overflow_add-ahead : goal.overflow_add-ahead
overflow_add-ahead c =
    record { fits = omega (arith, first_small _ c.args.seen.now.sound) }

pub least_after-requires-clause-after : goal.least_after-requires-clause-after
least_after-requires-clause-after c =
    after_none _ c.args.seen.now.sound 0 (first_ahead _ c.args.seen.now.sound) (first_small _ c.args.seen.now.sound) c.args.seen.now.free

pub row_without-requires-in_default : goal.row_without-requires-in_default
row_without-requires-in_default c =
    budget_below _ c.args.seen.now.sound

pub returns-in_default : goal.returns-in_default
returns-in_default c =
    c.row_without-in_default.ensures ∙ row_without_lem _ c.args.seen.now.own.failing (overrun_computed _ c.args.seen.now.sound) (first_beyond _ c.args.seen.now.sound (none_found c.in_default.ensures.found) (omega arith))

pub row_alone-requires-clause-first_end : goal.row_alone-requires-clause-first_end
row_alone-requires-clause-first_end c =
    first_end _ c.args.seen.now.sound (some_found c.in-Some.ensures.found) (omega (arith, c.least_after.ensures.ends_len_unchanged)) c.in-Some.ensures.found.within

pub row_by_jobs-requires : goal.row_by_jobs-requires
row_by_jobs-requires c =
    let nothing = no_overrun _ c.args.seen.now.sound (omega (arith, c.on_the_way.ensures c.if-on_the_way.true)) in
    record { ends_done = ends_done_without _ nothing; first_done = first_done_without _ nothing (first_end _ c.args.seen.now.sound (some_found c.in-Some.ensures.found) (omega (arith, c.least_after.ensures.ends_len_unchanged)) c.in-Some.ensures.found.within) }

pub row_searched-requires : goal.row_searched-requires
row_searched-requires c =
    record { first_end = first_end _ c.args.seen.now.sound (some_found c.in-Some.ensures.found) (omega (arith, c.least_after.ensures.ends_len_unchanged)) c.in-Some.ensures.found.within }
