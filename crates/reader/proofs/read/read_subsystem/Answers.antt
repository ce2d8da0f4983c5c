-- `reader::read::read_subsystem` meets its contract: a sound field leaves the tasks to decide. Assumes nothing.
use native.Mathlib.Nat.{le_of_eq}
use native.Mathlib.Omega.{arith}
use Prim.Native.Nat.{ℕ}
use mathlib.Core.Path.{sym, ap, ◌∙◌}
use lib.ListN.{get_or}
use Rattle.table.proofs.GridLaws.{lines_kept}
use Rattle.stored.specs.Judge.{subsystem_in_range}
use Rattle.stored.proofs.Judging.{sound_whole, sound_value_length}
use lib.Seq.{get_or-set_same}
use mathlib.Core.List.{List, []}
use Rattle.stored.proofs.Offsets.{part_from}
use Rattle.reader.proofs.ReadSubsystems.{subsystem_stops, tasks_decide, head_is_read, tasks_in_range, first_task_within}
use Rattle.reader.proofs.read.read_subsystem.Goals as goal

pub returns-in_default : goal.returns-in_default
returns-in_default c =
    subsystem_stops c.args.file.now c.args.m c.args.at _ c.requires.1.0 c.judge_subsystem-answer.ensures c.in_default.field-0 c.misread_at.result c.args.block.now c.requires.1.1 c.in_default.is c.misread_at.ensures

pub value-requires : goal.value-requires
value-requires c =
    sound_whole 2 9 subsystem_in_range (part_from c.args.file.now c.args.at) _ _ c.judge_subsystem-answer.ensures c.in-Ok.is

pub decode_subsystem-requires : goal.decode_subsystem-requires
decode_subsystem-requires c =
    record { subsystem_length_in_bounds = le_of_eq (sym (sound_value_length 2 9 subsystem_in_range (part_from c.args.file.now c.args.at) _ _ c.judge_subsystem-answer.ensures c.in-Ok.is c.value.result.now c.value.ensures)); line = c.requires.1.1.wide 0 (omega arith) }

pub read_tasks-requires : goal.read_tasks-requires
read_tasks-requires c =
    let head = head_is_read c.args.file.now c.args.m c.args.at _ c.requires.1.0 c.judge_subsystem-answer.ensures _ c.in-Ok.is c.value.result.now _ c.value.ensures c.decode_subsystem.ensures.0 in
    let fits = tasks_in_range c.args.file.now c.args.m c.args.at _ c.requires.1.0 c.judge_subsystem-answer.ensures _ c.in-Ok.is in
    let written = get_or-set_same c.args.block.now 0 _ [] (omega (arith, c.requires.1.1.lines)) in
    let counted = c.count.ensures ∙ ap (λ (xs : List ℕ). get_or xs 2 0) written ∙ head.count_is in record { m_le_most = (c.requires.0, (omega (arith, counted, fits), counted)); at_in_bounds = (first_task_within c.args.file.now c.args.m c.args.at _ c.requires.1.0 c.judge_subsystem-answer.ensures _ c.in-Ok.is, lines_kept c.args.block.now 0 _ (omega arith) c.requires.1.1 c.decode_subsystem.ensures.1); head_line = rw written head }

pub returns : goal.returns
returns c =
    tasks_decide c.args.file.now c.args.m c.args.at _ c.requires.1.0 c.judge_subsystem-answer.ensures _ c.in-Ok.is _ c.read_tasks.result c.read_tasks.ensures
