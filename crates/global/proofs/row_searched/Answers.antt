-- `global::row_searched` meets its contract: there is no active period, or the jobs tell, in either of two ways. Assumes nothing.
use native.Mathlib.Omega.{arith}
use mathlib.Core.Path.{◌∙◌}
use Rattle.row.proofs.RowLaws.{budget_below, overrun_computed, row_without_lem}
use Rattle.job.proofs.ActiveLaws.{active_within}
use Rattle.job.proofs.ResponseLaws.{no_overrun}
use Rattle.done.proofs.DoneLaws.{first_done_without, ends_done_without}
use Rattle.global.proofs.row_searched.Goals as goal

pub row_without-requires : goal.row_without-requires
row_without-requires c =
    budget_below _ c.args.seen.now.sound

pub returns-in_default : goal.returns-in_default
returns-in_default c =
    c.row_without.ensures ∙ row_without_lem _ c.args.seen.now.own.failing (overrun_computed _ c.args.seen.now.sound) c.in_default.ensures

pub nearly_all-requires : goal.nearly_all-requires
nearly_all-requires c =
    (omega (arith, c.args.seen.now.sound.own_cost, c.args.seen.now.sound.fits), c.args.seen.now.sound.period_small, omega (arith, c.requires.first_end.within), omega (arith, active_within _ c.args.seen.now.sound c.in-Some.ensures))

pub row_by_jobs-requires : goal.row_by_jobs-requires
row_by_jobs-requires c =
    let nothing = no_overrun _ c.args.seen.now.sound (c.nearly_all.ensures c.if-nearly_all.true) in
    record { ends_done = ends_done_without _ nothing; first_done = first_done_without _ nothing c.requires.first_end }
