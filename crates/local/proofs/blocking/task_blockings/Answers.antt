use Rattle.std.proofs.Common.{rules}
use Prim.Native.Nat.{ℕ}
use mathlib.Core.Path.{sym, ap, ◌∙◌}
use native.Mathlib.Omega.{arith}
use Rattle.lists.specs.Range.{padded}
use Rattle.lists.proofs.Raised.{raised_all}
use Rattle.holding.proofs.HoldingLaws.{ceiling_is_a_task}
use Rattle.table.specs.Limits.{most}
use Rattle.table.specs.Grid.{count_in, access_in, subsystem_in}
use Rattle.local.specs.Blocking.{task_blocking}
use Rattle.local.proofs.BlockingLaws.{raised_by_none, blockings_begin, blockings_of_one, blocking_more}
use Rattle.local.proofs.blocking.task_blockings.Goals.{then-held-l-ne0, else-held-l-ne0}
use Rattle.local.proofs.blocking.task_blockings.Goals as goal

pub returns-then-n-eq1 : goal.returns-then-n-eq1
returns-then-n-eq1 c =
    blockings_of_one c.args.part.now.m c.args.part.now.block.now c.count-n.ensures c.if-n-eq1.true

pub loop-l-init : goal.loop-l-init
loop-l-init c =
    blockings_begin (subsystem_in c.args.part.now.m c.args.part.now.block.now) (count_in c.args.part.now.block.now) c.args.part.now.counted.tasks_most

pub raise_behind-requires-clause-bounds : goal.raise_behind-requires-clause-bounds
raise_behind-requires-clause-bounds c = (
  omega (arith, c.count-n.ensures, c.inner_ceiling.ensures, ceiling_is_a_task c.args.part.now.block.now c.loop-l.l c.args.part.now.m c.loop-l-test.true c.args.part.now.counted.some_task),
  omega (arith, c.count-n.ensures, c.args.part.now.counted.tasks_most),
)

pub loop-l-preserved : goal.loop-l-preserved
loop-l-preserved c =
    let block = c.args.part.now.block.now in
    let u = subsystem_in c.args.part.now.m block in
    let f : ℕ → ℕ = λ i. access_in block i c.loop-l.l in
    let a = task_blocking c.loop-l.l u in
    elim c.if-held-l-ne0.branch [
      | then-held-l-ne0 w ↦
          let begun = c.loop-l.invariant ∙ ap (padded a 0 most) (sym c.count-n.ensures) in
          w.blockings-is ∙
          raised_all f (count_in block) a most _ _ (rw c.count-n.ensures at (w.raise_behind.ensures f a (λ i x h called. search rules) begun))
          (blocking_more c.args.part.now.m block c.loop-l.l _ c.loop-l-test.true w.inner_ceiling.ensures)
      | else-held-l-ne0 w ↦ w.blockings-is ∙
          raised_by_none u c.args.part.now.m c.loop-l.l (count_in block) c.args.held.now c.loop-l.blockings (omega arith) c.requires (omega (arith, w.if-held-l-ne0.false)) c.loop-l.invariant
    ]
