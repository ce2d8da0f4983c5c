-- `rules::places::judged_task` meets its contract. Assumes nothing.
use Prim.Native.Nat.{ℕ}
use mathlib.Core.Path.{sym, ap, ◌∙◌}
use borrow.Author.Tests.{lt-ltb, le-ltb}
use lib.Dec.{ltb}
use Rattle.rules.specs.Earlier.{judged_task}
use Rattle.rules.proofs.BreaksLaws.{task_range, task_order, task_access}
use Rattle.rules.proofs.EarlierLaws.{at_range, at_order, at_access, at_none}
use Rattle.rules.proofs.places.judged_task.Goals as goal

pub returns-then-task_out_of_range : goal.returns-then-task_out_of_range
unfolding judged_task
returns-then-task_out_of_range c =
    at_range _ _ (task_range _ _ _ _ c.longest_of_task-longest.ensures _ c.task_out_of_range.ensures ∙ c.if-task_out_of_range.true)

pub returns-then-task_out_of_order : goal.returns-then-task_out_of_order
unfolding judged_task
returns-then-task_out_of_order c =
    at_order _ _ (task_range _ _ _ _ c.longest_of_task-longest.ensures _ c.task_out_of_range.ensures ∙ c.if-task_out_of_range.false)
    (task_order _ _ _ _ c.task_out_of_order.ensures ∙ c.if-task_out_of_order.true)

pub returns-then-work-longest : goal.returns-then-work-longest
unfolding judged_task
returns-then-work-longest c =
    at_access _ _ (task_range _ _ _ _ c.longest_of_task-longest.ensures _ c.task_out_of_range.ensures ∙ c.if-task_out_of_range.false)
    (task_order _ _ _ _ c.task_out_of_order.ensures ∙ c.if-task_out_of_order.false)
    (sym (task_access _ _ _ _ c.longest_of_task-longest.ensures) ∙ ap (λ (w : ℕ). ltb w c.longest_of_task-longest.result) (sym c.work.ensures) ∙ lt-ltb _ _ c.if-work-longest.true)

pub returns : goal.returns
unfolding judged_task
returns c =
    at_none _ _ (task_range _ _ _ _ c.longest_of_task-longest.ensures _ c.task_out_of_range.ensures ∙ c.if-task_out_of_range.false)
    (task_order _ _ _ _ c.task_out_of_order.ensures ∙ c.if-task_out_of_order.false)
    (sym (task_access _ _ _ _ c.longest_of_task-longest.ensures) ∙ ap (λ (w : ℕ). ltb w c.longest_of_task-longest.result) (sym c.work.ensures) ∙ le-ltb _ _ c.if-work-longest.false)
