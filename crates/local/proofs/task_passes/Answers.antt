-- `local::task_passes` meets its contract. Assumes nothing.
use native.Mathlib.Omega.{arith}
use mathlib.Core.Path.{◌∙◌}
use Rattle.local.proofs.TaskLaws.{Within, tasks_within, some_budget, task_within, tasks_are_loads, passes_by_block}
use Rattle.local.proofs.task_passes.Goals as goal

pub work-requires : goal.work-requires
work-requires c =
    omega (arith, c.requires.i_bound, tasks_within _ _ c.requires.ready.sound)

pub deadline-requires : goal.deadline-requires
deadline-requires c =
    omega (arith, c.requires.i_bound, tasks_within _ _ c.requires.ready.sound)

pub invariant_of-share : goal.invariant_of-share
invariant_of-share c =
    record {
      budget_least = omega (arith, c.budget.ensures, some_budget _ _ c.requires.ready.sound);
      budget_by_end = omega (arith, c.budget.ensures, c.requires.ready.budget_by_end);
      end_by_period = omega (arith, c.period.ensures, c.requires.ready.end_by_period);
    }

pub held_within-requires : goal.held_within-requires
held_within-requires c =
    let ok : Within c.args.part.now.m c.args.part.now.block.now c.requires.ready.sound c.args.i = task_within _ _ c.requires.ready.sound _ c.requires.i_bound in
    record {
      loads = tasks_are_loads c.args.part.now.m c.args.part.now.block.now c.requires.ready.sound c.args.i c.requires.i_bound _ _ c.requires.taken_out;
      le_constant = (
        omega (arith, c.from-2.ensures, c.work.ensures, ok.work_least),
        omega (arith, c.from.ensures, c.from-2.ensures),
        omega (arith, c.deadline.ensures, ok.deadline_most),
      );
    }

pub returns : goal.returns
returns c =
    c.held_within.ensures ∙
    passes_by_block c.args.part.now.m c.args.part.now.block.now c.requires.ready.sound c.args.i c.requires.i_bound _ _ c.requires.taken_out c.args.end _ _ _ (c.from.ensures ∙ c.requires.blocked_value) (c.from-2.ensures ∙ c.work.ensures) c.deadline.ensures _ _ c.period.ensures c.budget.ensures
