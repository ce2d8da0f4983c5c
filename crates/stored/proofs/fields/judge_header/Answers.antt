-- `stored::fields::judge_header` meets its contract: range is judged last, on the value of a field that is sound but for
-- it. Assumes nothing.
use native.Mathlib.Omega.{arith}
use mathlib.Core.Path.{sym, ◌∙◌, ap}
use Rattle.stored.specs.Judge.{header_in_range, any_value}
use Rattle.stored.proofs.Judging.{faulty_before_range, sound_in_range, sound_out_of_range, sound_whole, sound_value, sound_value_length}
use Rattle.stored.proofs.fields.judge_header.Goals as goal

pub returns-in_default : goal.returns-in_default
returns-in_default c =
    faulty_before_range 1 3 header_in_range c.args.rest.now _ c.in_default.field-0 c.judge-answer.ensures c.in_default.is

pub value-requires : goal.value-requires
value-requires c =
    sound_whole 1 3 any_value c.args.rest.now _ _ c.judge-answer.ensures c.in-Ok.is

pub header_in_range-requires : goal.header_in_range-requires
header_in_range-requires c =
    omega (arith, sound_value_length 1 3 any_value c.args.rest.now _ _ c.judge-answer.ensures c.in-Ok.is c.value.result.now c.value.ensures)

pub returns-then-header_in_range : goal.returns-then-header_in_range
returns-then-header_in_range c =
    let e = sound_value 1 3 any_value c.args.rest.now _ _ c.judge-answer.ensures c.in-Ok.is c.value.result.now c.value.ensures in
    sound_in_range 1 3 header_in_range c.args.rest.now _ c.in-Ok.len c.judge-answer.ensures c.in-Ok.is
    (sym (ap header_in_range e) ∙ sym c.header_in_range.ensures ∙ c.if-header_in_range.true)

pub returns : goal.returns
returns c =
    let e = sound_value 1 3 any_value c.args.rest.now _ _ c.judge-answer.ensures c.in-Ok.is c.value.result.now c.value.ensures in
    sound_out_of_range 1 3 header_in_range c.args.rest.now _ c.in-Ok.len c.judge-answer.ensures c.in-Ok.is
    (sym (ap header_in_range e) ∙ sym c.header_in_range.ensures ∙ c.if-header_in_range.false)
