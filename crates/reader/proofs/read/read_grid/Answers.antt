-- `reader::read::read_grid` meets its contract: a sound header leaves the subsystems to decide. Assumes nothing.
use native.Mathlib.Omega.{arith}
use mathlib.Core.Path.{◌∙◌}
use Rattle.std.proofs.lemmas.Result.{err_from_is_err_and}
use Rattle.stored.specs.Judge.{header_in_range}
use Rattle.stored.proofs.Judging.{sound_whole, sound_value_length}
use Rattle.stored.proofs.Offsets.{part_from}
use Rattle.reader.proofs.ReadHeader.{header_stops, body_stops, body_decides, header_is_read, counts_in_range, first_subsystem_within}
use Rattle.reader.proofs.read.read_grid.Goals as goal

pub returns-in_default : goal.returns-in_default
returns-in_default c =
    header_stops c.args.file.now _ c.judge_header-answer.ensures c.in_default.field-0 c.misread_at.result c.args.grid.now c.requires c.in_default.is c.misread_at.ensures

pub value-header-requires : goal.value-header-requires
value-header-requires c =
    sound_whole 1 3 header_in_range (part_from c.args.file.now 0) _ _ c.judge_header-answer.ensures c.in-Ok.is

pub bounds-header-1 : goal.bounds-header-1
bounds-header-1 c =
    omega (arith, sound_value_length 1 3 header_in_range (part_from c.args.file.now 0) _ _ c.judge_header-answer.ensures c.in-Ok.is c.value-header.result.now c.value-header.ensures)

pub bounds-header-2 : goal.bounds-header-2
bounds-header-2 c =
    omega (arith, sound_value_length 1 3 header_in_range (part_from c.args.file.now 0) _ _ c.judge_header-answer.ensures c.in-Ok.is c.value-header.result.now c.value-header.ensures)

pub bounds-header-1-2 : goal.bounds-header-1-2
bounds-header-1-2 c =
    omega (arith, sound_value_length 1 3 header_in_range (part_from c.args.file.now 0) _ _ c.judge_header-answer.ensures c.in-Ok.is c.value-header.result.now c.value-header.ensures)

pub bounds-header-2-2 : goal.bounds-header-2-2
bounds-header-2-2 c =
    omega (arith, sound_value_length 1 3 header_in_range (part_from c.args.file.now 0) _ _ c.judge_header-answer.ensures c.in-Ok.is c.value-header.result.now c.value-header.ensures)

pub read_subsystems-requires : goal.read_subsystems-requires
read_subsystems-requires c =
    let head = header_is_read c.args.file.now _ c.judge_header-answer.ensures _ c.in-Ok.is c.value-header.result.now c.value-header.ensures in
    let counts = counts_in_range c.args.file.now _ c.judge_header-answer.ensures _ c.in-Ok.is in
    record { n_le_most = (omega (arith, c.from-n.ensures, head.0, counts.0), c.from-n.ensures ∙ head.0); m_le_most = (omega (arith, c.from-m.ensures, head.1, counts.1), c.from-m.ensures ∙ head.1); m_in_bounds = (first_subsystem_within c.args.file.now _ c.judge_header-answer.ensures _ c.in-Ok.is _, c.requires) }

pub returns-in_err-read_subsystems : goal.returns-in_err-read_subsystems
returns-in_err-read_subsystems c =
    let head = header_is_read c.args.file.now _ c.judge_header-answer.ensures _ c.in-Ok.is c.value-header.result.now c.value-header.ensures in
    let p = err_from_is_err_and c.from_residual.result c.from_residual.ensures.1 in
    rw (p.1, p.2)
    (body_stops c.args.file.now _ c.judge_header-answer.ensures _ c.in-Ok.is _ head.0 head.1 _ c.in_err-read_subsystems.field-0.0 (rw (c.from-n.ensures, c.from-m.ensures, c.in_err-read_subsystems.was) at c.read_subsystems.ensures))

pub returns : goal.returns
returns c =
    let head = header_is_read c.args.file.now _ c.judge_header-answer.ensures _ c.in-Ok.is c.value-header.result.now c.value-header.ensures in
    body_decides c.args.file.now _ c.judge_header-answer.ensures _ c.in-Ok.is _ head.0 head.1 _ (rw (c.from-n.ensures, c.from-m.ensures, c.in_ok-read_subsystems.was) at c.read_subsystems.ensures)
