use mathlib.Core.Path.{sym}
use Rattle.lists.proofs.UpTo.{padded_none}
use Rattle.table.specs.Limits.{most}
use Rattle.outer.proofs.leading.leading.Goals as goal

pub loop-l-init : goal.loop-l-init
loop-l-init c =
    sym (padded_none _ 0 most)
