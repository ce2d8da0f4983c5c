-- `judge::refused_by_overrun` meets its contract. Assumes nothing.
use Prim.Native.Nat.{◌≤◌}
use mathlib.Core.Path.{◌≡◌}
use lib.ListN.{replicate}
use Rattle.lists.specs.Range.{padded}
use Rattle.table.specs.Limits.{most}
use Rattle.table.specs.Grid.{system_in}
use Rattle.holding.specs.Held.{holdings_at}
use Rattle.rules.specs.declared.Rule.TheVariants.{Overrun}
use Rattle.rules.proofs.JudgingLaws.{OffendersFrom}
use Rattle.judge.proofs.refused_by_overrun.Given as goal

abbrev pub invariant-loop-s : goal.invariant-loop-s
invariant-loop-s l =
    let sys = system_in l.laid.n l.laid.m l.laid.grid.now in
    (l.s-end ≤ most) × OffendersFrom sys Overrun l.laid.n l.s × (l.holdings ≡ padded (holdings_at sys) (replicate most 0) most l.s)
