-- `ends::jobs_of` meets its contract: what the search finds is the active period, or says that there is none. Assumes nothing.
use mathlib.Core.Path.{ap, ◌∙◌}
use Rattle.least.specs.Up.{up}
use Rattle.search.proofs.AnswerLaws.{some_found, none_found}
use Rattle.search.proofs.ClimbLaws.{fit_periods, starts_nowhere}
use Rattle.job.specs.View.{view_of}
use Rattle.job.proofs.ActiveLaws.{active_from, period_pos}
use Rattle.job.proofs.LentLaws as lent
use Rattle.job.proofs.EndsLaws.{once_fits, active_lent, active_at, jobs_with, jobs_without}
use native.Mathlib.Omega.{arith}
use Rattle.ends.proofs.Lending.{lending}
use Rattle.ends.proofs.jobs_of.Goals as goal

pub ends_at-requires : goal.ends_at-requires
unfolding view_of
ends_at-requires c =
    let l = lending _ _ _ _ _ c.args.known.now.shown.sound c.args.known.now.common_value c.requires c.asking_of-asking.ensures.periods c.asking_of-asking.ensures.costs c.asking_of-asking.ensures.frees in
    record { periods = (fit_periods l.fits, omega (arith, l.listed), omega (arith, l.listed)); le_y = (omega arith, omega arith) }

pub demand_in-once-requires : goal.demand_in-once-requires
unfolding view_of
demand_in-once-requires c =
    let l = lending _ _ _ _ _ c.args.known.now.shown.sound c.args.known.now.common_value c.requires c.asking_of-asking.ensures.periods c.asking_of-asking.ensures.costs c.asking_of-asking.ensures.frees in
    record { loads = l.fits.loads; le_x = (omega arith, omega arith) }

pub overflow_cast-once : goal.overflow_cast-once
unfolding view_of
overflow_cast-once c =
    let l = lending _ _ _ _ _ c.args.known.now.shown.sound c.args.known.now.common_value c.requires c.asking_of-asking.ensures.periods c.asking_of-asking.ensures.costs c.asking_of-asking.ensures.frees in
    let fits_once = once_fits _ l.seen l.periods_lent l.costs_lent c.blocking_in-blocking.ensures c.demand_in-once.ensures.0 in
    omega (arith, fits_once.1)

pub overflow_add-blocking : goal.overflow_add-blocking
unfolding view_of
overflow_add-blocking c =
    let l = lending _ _ _ _ _ c.args.known.now.shown.sound c.args.known.now.common_value c.requires c.asking_of-asking.ensures.periods c.asking_of-asking.ensures.costs c.asking_of-asking.ensures.frees in
    let fits_once = once_fits _ l.seen l.periods_lent l.costs_lent c.blocking_in-blocking.ensures c.demand_in-once.ensures.0 in
    record { fits = omega (arith, fits_once.1) }

pub overflow_sub-blocking : goal.overflow_sub-blocking
unfolding view_of
overflow_sub-blocking c =
    let l = lending _ _ _ _ _ c.args.known.now.shown.sound c.args.known.now.common_value c.requires c.asking_of-asking.ensures.periods c.asking_of-asking.ensures.costs c.asking_of-asking.ensures.frees in
    let fits_once = once_fits _ l.seen l.periods_lent l.costs_lent c.blocking_in-blocking.ensures c.demand_in-once.ensures.0 in
    omega (arith, fits_once.0)

pub least_after-requires-clause-after : goal.least_after-requires-clause-after
unfolding view_of
least_after-requires-clause-after c =
    let l = lending _ _ _ _ _ c.args.known.now.shown.sound c.args.known.now.common_value c.requires c.asking_of-asking.ensures.periods c.asking_of-asking.ensures.costs c.asking_of-asking.ensures.frees in
    record { waits = active_lent _ l.seen l.periods_lent l.costs_lent c.blocking_in-blocking.ensures c.demand_in-once.ensures.0; free = l.frees_lent; with_end = omega (arith, l.listed, c.ends_at.ensures.1); ends_at = c.ends_at.ensures.0; starts = starts_nowhere _ _ }

pub returns-in_default : goal.returns-in_default
unfolding view_of
returns-in_default c =
    let l = lending _ _ _ _ _ c.args.known.now.shown.sound c.args.known.now.common_value c.requires c.asking_of-asking.ensures.periods c.asking_of-asking.ensures.costs c.asking_of-asking.ensures.frees in
    let found = active_at _ l.seen l.periods_lent l.costs_lent c.blocking_in-blocking.ensures c.demand_in-once.ensures.0 (none_found c.in_default.ensures.found) in
    jobs_without _ (found.beyond (omega arith))

pub round_up-requires : goal.round_up-requires
unfolding view_of
round_up-requires c =
    let l = lending _ _ _ _ _ c.args.known.now.shown.sound c.args.known.now.common_value c.requires c.asking_of-asking.ensures.periods c.asking_of-asking.ensures.costs c.asking_of-asking.ensures.frees in
    let found = active_at _ l.seen l.periods_lent l.costs_lent c.blocking_in-blocking.ensures c.demand_in-once.ensures.0 (some_found c.in-Some.ensures.found) in
    (active_from _ l.seen (found.at c.in-Some.ensures.found.within), omega (arith, period_pos _ l.seen, lent.period_lent c.args.known.now.shown.n c.args.known.now.shown.m c.args.known.now.shown.lines.now c.args.known.now.common.now c.args.known.now.shown.sound c.args.known.now.common_value c.args.s c.requires))

pub returns : goal.returns
unfolding view_of
returns c =
    let l = lending _ _ _ _ _ c.args.known.now.shown.sound c.args.known.now.common_value c.requires c.asking_of-asking.ensures.periods c.asking_of-asking.ensures.costs c.asking_of-asking.ensures.frees in
    let found = active_at _ l.seen l.periods_lent l.costs_lent c.blocking_in-blocking.ensures c.demand_in-once.ensures.0 (some_found c.in-Some.ensures.found) in
    jobs_with _ (found.at c.in-Some.ensures.found.within) (c.round_up.ensures ∙ ap (up _) (lent.period_lent c.args.known.now.shown.n c.args.known.now.shown.m c.args.known.now.shown.lines.now c.args.known.now.common.now c.args.known.now.shown.sound c.args.known.now.common_value c.args.s c.requires))
