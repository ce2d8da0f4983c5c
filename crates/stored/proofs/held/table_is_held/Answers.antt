-- `stored::held::table_is_held` meets its contract: the table's own row says of each number in it how many bytes it has.
-- Assumes nothing.
use mathlib.Core.List.{List}
use mir.Syntax.{w32}
use mir.Val.{Val}
use borrow.Author.Rules.{elem_Fits}
use denote.Shadow.{shadow}
use Rattle.table.specs.contracts.Task as task
use Rattle.table.specs.contracts.Subsystem as subsystem
use Rattle.table.specs.declared.Task.{Task}
use Rattle.table.specs.declared.Subsystem.{Subsystem}
use Rattle.table.specs.Meaning.{past_tasks, past_subsystems}
use Rattle.stored.proofs.HeldLaws.{HeldTaskSlot, HeldSlot, past_tasks_held, past_subsystems_held, held_of_slots, each_itself}
use Rattle.stored.proofs.held.table_is_held.Goals as goal

task-told : (t : Task) (vs : List Val) → shadow ((task.the_row).own_val t vs) → HeldTaskSlot t
task-told t vs h =
    record {
      separation = h.1.1.0.1;
      work = h.1.1.1.0.1;
      deadline = h.1.1.1.1.0.1;
      access = λ l. (elem_Fits w32 w32 t.access _ l h.1.1.1.1.1.0.1.1 tt).fits;
    }

subsystem-told : (u : Subsystem) (vs : List Val) → shadow ((subsystem.the_row).own_val u vs) → HeldSlot u
subsystem-told u vs h =
    record {
      period = h.1.1.0.1;
      budget = h.1.1.1.0.1;
      task = λ i. each_itself (task.the_row).own_val HeldTaskSlot task-told past_tasks past_tasks_held u.tasks _ i h.1.1.1.1.1.0.1.1;
    }

pub returns : goal.returns
returns c =
    held_of_slots c.args.t (λ s. each_itself (subsystem.the_row).own_val HeldSlot subsystem-told past_subsystems past_subsystems_held c.args.t.subsystems _ s c.well_formed.0.1.1.1.1.0.1.1)
