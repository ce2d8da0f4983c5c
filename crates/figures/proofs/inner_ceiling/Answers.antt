-- `figures::inner_ceiling` is safe: an inner ceiling is one of the tasks. Assumes nothing.
use borrow.Author.Rules.{rules}
use native.Mathlib.Omega.{arith}
use mathlib.Core.Path.{◌∙◌}
use Rattle.table.proofs.GridLaws.{blank_lines}
use Rattle.holding.proofs.HoldingLaws.{ceiling_is_a_task}
use Rattle.figures.proofs.inner_ceiling.Goals as goal

pub lay_out_subsystem-requires : goal.lay_out_subsystem-requires
lay_out_subsystem-requires c =
    (omega (arith, c.requires), blank_lines)

pub invariant_of-part : goal.invariant_of-part
invariant_of-part c =
    let counted = c.lay_out_subsystem.ensures.0.count_is ∙ c.requires in
    record { counted = record { some_task = omega (arith, counted); tasks_most = omega (arith, counted); resources_most = search rules } }

pub overflow_add-ceiling : goal.overflow_add-ceiling
overflow_add-ceiling c =
    let counted = c.lay_out_subsystem.ensures.0.count_is ∙ c.requires in
    omega (arith, c.inner_ceiling-ceiling.ensures, counted, ceiling_is_a_task c.lay_out_subsystem.new.block 0 1 (omega arith) (omega (arith, counted)))
