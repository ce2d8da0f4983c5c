-- `global::active_start` meets its contract: nothing, or where the shares let the search stand. Assumes nothing.
use native.Mathlib.Omega.{arith}
use Rattle.least.proofs.ShareLaws.{standing_starts}
use Rattle.global.proofs.active_start.Goals as goal

pub returns : goal.returns
returns c =
    λ x. standing_starts _ _ _ _ _ x _ c.args.seen.now.sound.fit.loads c.spare_of-spare.ensures (omega (arith, c.if-spare-eq0.false)) c.standing.ensures
