-- `ends::budget_end` meets its contract: what it lends are the loads, and the search finds F(k). Assumes nothing.
use Rattle.job.specs.View.{view_of}
use Rattle.job.proofs.EndsLaws.{ahead_small, budget_lent, budget_at_lem}
use native.Mathlib.Omega.{arith}
use Rattle.ends.proofs.Lending.{lending}
use Rattle.ends.proofs.budget_end.Goals as goal

pub overflow_cast-ahead : goal.overflow_cast-ahead
overflow_cast-ahead c =
    let l = lending _ _ _ _ _ c.args.known.now.shown.sound c.args.known.now.common_value c.requires.s_lt_n c.asking_of-asking.ensures.periods c.asking_of-asking.ensures.costs c.asking_of-asking.ensures.frees in
    omega (arith, ahead_small _ l.seen l.periods_lent l.costs_lent c.requires.counted, c.ahead_of_job-ahead.ensures)

pub least_within-requires : goal.least_within-requires
unfolding view_of
least_within-requires c =
    let l = lending _ _ _ _ _ c.args.known.now.shown.sound c.args.known.now.common_value c.requires.s_lt_n c.asking_of-asking.ensures.periods c.asking_of-asking.ensures.costs c.asking_of-asking.ensures.frees in
    let lent_to = budget_lent _ l.seen l.periods_lent l.costs_lent c.requires.counted c.ahead_of_job-ahead.ensures l.frees_lent in
    record { after = lent_to.0; comes_down = lent_to.1 }

pub returns : goal.returns
unfolding view_of
returns c =
    let l = lending _ _ _ _ _ c.args.known.now.shown.sound c.args.known.now.common_value c.requires.s_lt_n c.asking_of-asking.ensures.periods c.asking_of-asking.ensures.costs c.asking_of-asking.ensures.frees in
    budget_at_lem _ l.seen l.periods_lent l.costs_lent c.requires.counted c.ahead_of_job-ahead.ensures c.least_within.ensures.least
