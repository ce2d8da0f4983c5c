-- `ends::job_end` meets its contract: what it lends are the loads, and the search from the budget's end finds the
-- job's. Assumes nothing.
use native.Mathlib.Omega.{arith}
use mathlib.Core.Path.{◌∙◌}
use lib.ListN.{get_or}
use Rattle.search.specs.After.{Frees}
use Rattle.job.specs.View.{view_of}
use Rattle.job.proofs.LentLaws as lent
use Rattle.job.proofs.WaitLaws.{frees_fewer}
use Rattle.job.proofs.EndsLaws.{after_lent, job_at}
use Rattle.ends.proofs.Lending.{lending}
use Rattle.ends.proofs.job_end.Goals as goal

pub end_after-requires : goal.end_after-requires
unfolding view_of
end_after-requires c =
    let l = lending _ _ _ _ _ c.args.known.now.shown.sound c.args.known.now.common_value c.requires.s_lt_n c.asking_of-asking.ensures.periods c.asking_of-asking.ensures.costs c.asking_of-asking.ensures.frees in
    let frees_lent : Frees c.asking_of-asking.result.loads.periods.now c.asking_of-asking.result.loads.costs.now c.asking_of-asking.result.frees.now (get_or c.args.known.now.common.now.ceilings c.args.l 0) = frees_fewer (get_or c.args.known.now.common.now.ceilings c.args.l 0) (l.frees_lent)
    (omega (arith, lent.ceiling_lent c.args.known.now.shown.n c.args.known.now.shown.m c.args.known.now.shown.lines.now c.args.known.now.common.now c.args.known.now.shown.sound c.args.known.now.common_value c.args.s c.args.l c.requires.l_lt_m.0, l.seen.ceiling_reaches c.args.l (lent.resource_seen c.args.known.now.shown.n c.args.known.now.shown.m c.args.known.now.shown.lines.now c.args.s c.args.l c.requires.s_lt_n c.requires.l_lt_m.0) c.requires.l_lt_m.1)) in
    record { budget_over = after_lent _ l.seen l.periods_lent l.costs_lent c.requires.counted c.args.l (lent.resource_seen c.args.known.now.shown.n c.args.known.now.shown.m c.args.known.now.shown.lines.now c.args.s c.args.l c.requires.s_lt_n c.requires.l_lt_m.0) c.requires.l_lt_m.1 (lent.ceiling_lent c.args.known.now.shown.n c.args.known.now.shown.m c.args.known.now.shown.lines.now c.args.known.now.common.now c.args.known.now.shown.sound c.args.known.now.common_value c.args.s c.args.l c.requires.l_lt_m.0) c.budget_end-end.ensures (c.held-held.ensures ∙ lent.held_lent c.args.known.now.shown.n c.args.known.now.shown.m c.args.known.now.shown.lines.now c.args.s c.args.l c.requires.s_lt_n c.requires.l_lt_m.0); frees = frees_lent }

pub returns : goal.returns
returns c =
    let l = lending _ _ _ _ _ c.args.known.now.shown.sound c.args.known.now.common_value c.requires.s_lt_n c.asking_of-asking.ensures.periods c.asking_of-asking.ensures.costs c.asking_of-asking.ensures.frees in
    job_at _ l.seen l.periods_lent l.costs_lent c.requires.counted c.args.l (lent.resource_seen c.args.known.now.shown.n c.args.known.now.shown.m c.args.known.now.shown.lines.now c.args.s c.args.l c.requires.s_lt_n c.requires.l_lt_m.0) c.requires.l_lt_m.1 (lent.ceiling_lent c.args.known.now.shown.n c.args.known.now.shown.m c.args.known.now.shown.lines.now c.args.known.now.common.now c.args.known.now.shown.sound c.args.known.now.common_value c.args.s c.args.l c.requires.l_lt_m.0) c.budget_end-end.ensures (c.held-held.ensures ∙ lent.held_lent c.args.known.now.shown.n c.args.known.now.shown.m c.args.known.now.shown.lines.now c.args.s c.args.l c.requires.s_lt_n c.requires.l_lt_m.0) c.end_after.ensures
