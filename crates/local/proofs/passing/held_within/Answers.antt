use mathlib.Core.Path.{sym}
use Rattle.least.proofs.Demand.{total_mono}
use Rattle.local.proofs.PassingLaws.{stands_beyond, search_found, search_next, total_positive}
use native.Mathlib.Omega.{arith}
use Rattle.local.proofs.passing.held_within.Goals as goal

pub moment_within-next-requires : goal.moment_within-next-requires
moment_within-next-requires c =
    (omega arith, rw c.need_in-need.ensures (total_positive _ _ _ _ _ (omega arith)))

pub returns-then-next-x : goal.returns-then-next-x
returns-then-next-x c =
    search_found _ _ _ _ c.args.share.now.budget_least c.args.share.now.budget_by_end c.args.share.now.end_by_period
    (total_mono _ _ _ _ c.requires.loads) _ _ _ _ c.need_in-need.ensures
    (rw c.need_in-need.ensures (total_positive _ _ _ _ _ (omega arith))) c.moment_within-next.ensures
    c.loop-x.invariant.1 (omega arith) c.if-next-x.true

pub loop-x-preserved : goal.loop-x-preserved
loop-x-preserved c = (
  omega (arith, c.moment_within-next.ensures),
  search_next _ _ _ _ c.args.share.now.budget_least c.args.share.now.budget_by_end c.args.share.now.end_by_period
      (total_mono _ _ _ _ c.requires.loads) _ _ _ _ c.need_in-need.ensures
      (rw c.need_in-need.ensures (total_positive _ _ _ _ _ (omega arith))) c.moment_within-next.ensures
      c.loop-x.invariant.1 (omega arith) c.if-next-x.false,
)

pub returns : goal.returns
returns c =
    sym (stands_beyond _ _ _ _ _ _ c.loop-x.invariant.1 (omega arith))
