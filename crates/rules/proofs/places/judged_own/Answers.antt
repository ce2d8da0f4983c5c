-- `rules::places::judged_own` meets its contract. Assumes nothing.
use mathlib.Core.Path.{sym, ap₂, ◌∙◌}
use borrow.Author.Tests.{lt-ltb, le-ltb}
use lib.Dec.{ltb}
use Rattle.rules.specs.Earlier.{judged_own}
use Rattle.rules.proofs.BreaksLaws.{own_range, own_order, own_access}
use Rattle.rules.proofs.EarlierLaws.{at_range, at_order, at_none}
use Rattle.rules.proofs.places.judged_own.Goals as goal

pub returns-then-own_out_of_range : goal.returns-then-own_out_of_range
unfolding judged_own
returns-then-own_out_of_range c =
    at_range _ _ (own_range _ _ _ c.own_out_of_range.ensures ∙ c.if-own_out_of_range.true)

pub returns-then-period-budget : goal.returns-then-period-budget
unfolding judged_own
returns-then-period-budget c =
    at_order _ _ (own_range _ _ _ c.own_out_of_range.ensures ∙ c.if-own_out_of_range.false)
    (own_order _ _ ∙ ap₂ ltb (sym c.period.ensures) (sym c.budget.ensures) ∙ lt-ltb _ _ c.if-period-budget.true)

pub returns : goal.returns
unfolding judged_own
returns c =
    at_none _ _ (own_range _ _ _ c.own_out_of_range.ensures ∙ c.if-own_out_of_range.false)
    (own_order _ _ ∙ ap₂ ltb (sym c.period.ensures) (sym c.budget.ensures) ∙ le-ltb _ _ c.if-period-budget.false)
    (own_access _ _)
