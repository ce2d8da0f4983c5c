-- `stored::fields::judge_subsystem` meets its contract: range is judged last, on the value of a field that is sound but
-- for it. Assumes nothing.
use native.Mathlib.Omega.{arith}
use mathlib.Core.Bool.{not}
use mathlib.Core.Path.{sym, ◌∙◌, ap}
use Rattle.stored.specs.Judge.{subsystem_in_range, any_value}
use Rattle.stored.proofs.Judging.{faulty_before_range, sound_in_range, sound_out_of_range, sound_whole, sound_value, sound_value_length}
use Rattle.stored.proofs.fields.judge_subsystem.Goals as goal

pub returns-in_default : goal.returns-in_default
returns-in_default c =
    faulty_before_range 2 9 subsystem_in_range c.args.rest.now _ c.in_default.field-0 c.judge-answer.ensures c.in_default.is

pub value-counted-requires : goal.value-counted-requires
value-counted-requires c =
    sound_whole 2 9 any_value c.args.rest.now _ _ c.judge-answer.ensures c.in-Ok.is

pub bounds-counted-8 : goal.bounds-counted-8
bounds-counted-8 c =
    omega (arith, sound_value_length 2 9 any_value c.args.rest.now _ _ c.judge-answer.ensures c.in-Ok.is c.value-counted.result.now c.value-counted.ensures)

pub returns-then-count_out : goal.returns-then-count_out
unfolding subsystem_in_range
returns-then-count_out c =
    let e = sound_value 2 9 any_value c.args.rest.now _ _ c.judge-answer.ensures c.in-Ok.is c.value-counted.result.now c.value-counted.ensures in
    sound_out_of_range 2 9 subsystem_in_range c.args.rest.now _ c.in-Ok.len c.judge-answer.ensures c.in-Ok.is
    (sym (ap subsystem_in_range e) ∙ ap not (sym c.count_out.ensures ∙ c.if-count_out.true))

pub returns : goal.returns
unfolding subsystem_in_range
returns c =
    let e = sound_value 2 9 any_value c.args.rest.now _ _ c.judge-answer.ensures c.in-Ok.is c.value-counted.result.now c.value-counted.ensures in
    sound_in_range 2 9 subsystem_in_range c.args.rest.now _ c.in-Ok.len c.judge-answer.ensures c.in-Ok.is
    (sym (ap subsystem_in_range e) ∙ ap not (sym c.count_out.ensures ∙ c.if-count_out.false))
