use Prim.Native.Nat.{ℕ, ◌<◌}
use native.Mathlib.Omega.{arith}
use mathlib.Core.Path.{◌≡◌, ap, ◌∙◌}
use mathlib.Core.List.{List}
use lib.ListN.{get_or}
use Rattle.lists.specs.Range.{padded}
use Rattle.lists.proofs.UpTo.{get_d_padded}
use Rattle.table.specs.Limits.{most}
use Rattle.outer.specs.Blocked.{ceiling_in}
use Rattle.outer.proofs.CeilingLaws.{ceiling_listed}
use Rattle.outer.proofs.BlockingLaws.{blocked_none}
use Rattle.outer.proofs.blocking.blockings_of.Goals as goal

pub loop-l-init : goal.loop-l-init
loop-l-init c =
    blocked_none c.args.shown.now.n c.args.shown.now.lines.now c.args.shown.now.few

-- What stands in the array of ceilings at l.
ceiling-at : (ceilings : List ℕ) (lines : List (List ℕ)) (n m l : ℕ) → ceilings ≡ padded (ceiling_in lines n) 0 most m → l < m → get_or ceilings l 0 ≡ ceiling_in lines n l
ceiling-at ceilings lines n m l e h = ap (λ (xs : List ℕ). get_or xs l 0) e ∙ get_d_padded (ceiling_in lines n) 0 0 most m l h

pub raise_by-requires-clause-l_lt_most : goal.raise_by-requires-clause-l_lt_most
raise_by-requires-clause-l_lt_most c =
    let at = ceiling-at c.args.ceilings c.args.shown.now.lines.now c.args.shown.now.n c.args.shown.now.m c.loop-l.l c.requires c.loop-l-test.true in
    (omega (arith, c.loop-l-test.true, c.args.shown.now.few_resources), omega (arith, at, ceiling_listed c.args.shown.now.lines.now c.args.shown.now.n c.loop-l.l c.args.shown.now.some), at)
