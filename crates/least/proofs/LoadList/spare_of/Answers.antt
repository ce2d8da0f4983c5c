use mathlib.Core.Path.{sym}
use Rattle.least.proofs.ShareLaws.{shares_none, shares_turn}
use native.Mathlib.Omega.{arith}
use Rattle.least.proofs.LoadList.spare_of.Goals as goal

pub loop-j-init : goal.loop-j-init
loop-j-init c =
    (sym (shares_none _ _), omega arith)

pub loop-j-preserved : goal.loop-j-preserved
loop-j-preserved c =
    (shares_turn _ _ c.loop-j.j c.loop-j.sum _ c.loop-j.invariant.0 c.share_of-sum.ensures.0, omega (arith, c.loop-j.invariant.1, c.share_of-sum.ensures.1))
