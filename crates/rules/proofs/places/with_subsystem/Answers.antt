-- `rules::places::with_subsystem` meets its contract. Assumes nothing.
use mathlib.Core.Path.{sym, ◌∙◌}
use Rattle.rules.specs.Earlier.{judged_subsystem}
use Rattle.rules.proofs.EarlierLaws.{nothing_earlier}
use Rattle.rules.proofs.places.with_subsystem.Goals as goal

pub returns-then-is_first : goal.returns-then-is_first
unfolding judged_subsystem
returns-then-is_first c =
    nothing_earlier _ _ (sym c.is_first.ensures ∙ c.if-is_first.true)
