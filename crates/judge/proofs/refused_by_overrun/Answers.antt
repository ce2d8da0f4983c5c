use native.Mathlib.Omega.{arith}
use mathlib.Core.Path.{sym, ◌∙◌}
use borrow.Author.Tests.{lt-ltb, le-ltb}
use lib.ListN.{replicate}
use Rattle.lists.proofs.UpTo.{padded_none, padded_turn}
use Rattle.table.specs.Limits.{most}
use Rattle.table.specs.Grid.{block_in, system_in}
use Rattle.table.proofs.GridLaws.{count_of_grid}
use Rattle.holding.specs.Held.{holdings_at}
use Rattle.holding.proofs.HoldingLaws.{held_of_block, all_held}
use Rattle.rules.specs.declared.Rule.TheVariants.{Overrun}
use Rattle.rules.proofs.OrderLaws.{counted_grid}
use Rattle.rules.proofs.BreaksLaws.{own_overrun}
use Rattle.rules.proofs.JudgingLaws.{offenders_from_zero, offender_here, offenders_next, offenders_over, overrun_here, overrun_nowhere}
use Rattle.judge.proofs.refused_by_overrun.Goals as goal

pub loop-s-init : goal.loop-s-init
loop-s-init c = (
  (counted_grid _ _ _ c.args.laid.now.counted).subsystems_most,
  offenders_from_zero _ Overrun _ (count_of_grid _ _ _),
  c.requires.holdings_value ∙ sym (padded_none _ _ most),
)

pub invariant_of-held_by : goal.invariant_of-held_by
invariant_of-held_by c =
    record { counted = (counted_grid _ _ _ c.args.laid.now.counted).counted c.loop-s.s (omega arith) }

pub returns-then-from-held-clause-value : goal.returns-then-from-held-clause-value
returns-then-from-held-clause-value c =
    let laid = c.args.laid.now in
    let rule = own_overrun laid.m (block_in laid.grid.now c.loop-s.s) _ _ _ (c.from.ensures ∙ c.period.ensures) (c.from-in-loop-s.ensures ∙ c.budget.ensures) c.held_by-held.ensures.largest_is in
    c.refused.ensures ∙ offender_here _ Overrun _ _ _ (omega arith) (overrun_here laid.n laid.m laid.grid.now c.loop-s.s (omega arith) _ rule (lt-ltb _ _ c.if-from-held.true)) c.loop-s.invariant.1

pub loop-s-preserved : goal.loop-s-preserved
loop-s-preserved c =
    let laid = c.args.laid.now in
    let rule = own_overrun laid.m (block_in laid.grid.now c.loop-s.s) _ _ _ (c.from.ensures ∙ c.period.ensures) (c.from-in-loop-s.ensures ∙ c.budget.ensures) c.held_by-held.ensures.largest_is in (
      c.loop-s.invariant.0,
      offenders_next _ Overrun _ _ (omega arith) (overrun_nowhere laid.n laid.m laid.grid.now c.loop-s.s (omega arith) _ rule (le-ltb _ _ c.if-from-held.false)) c.loop-s.invariant.1,
      padded_turn (holdings_at (system_in laid.n laid.m laid.grid.now)) (replicate most 0) most c.loop-s.s (omega (arith, c.loop-s.invariant.0)) c.loop-s.holdings _ c.loop-s.invariant.2 (c.held_by-held.ensures.each_is ∙ held_of_block laid.n laid.m laid.grid.now c.loop-s.s (omega arith)),
    )

pub returns : goal.returns
returns c =
    let laid = c.args.laid.now in
    record { value = offenders_over _ Overrun _ _ (omega arith) c.loop-s.invariant.1; held_in = λ e. all_held laid.n laid.m laid.grid.now c.loop-s.s c.loop-s.holdings (omega arith) c.loop-s.invariant.2 }
