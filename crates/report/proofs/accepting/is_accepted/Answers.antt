-- `report::accepting::is_accepted` meets its contract. Assumes nothing.
use mathlib.Core.Path.{◌∙◌}
use borrow.Author.Tests.{ne_eqb}
use Rattle.report.proofs.AcceptedLaws.{accepted_by_fit, rejected_by_task}
use Rattle.report.proofs.accepting.is_accepted.Goals as goal

pub returns-then-row-eq0 : goal.returns-then-row-eq0
returns-then-row-eq0 c =
    accepted_by_fit _ _ c.if-row-eq0.true c.row_fits.ensures

pub returns-else-row-eq0 : goal.returns-else-row-eq0
returns-else-row-eq0 c =
    ne_eqb _ 0 c.if-row-eq0.false ∙ rejected_by_task _ c.if-row-eq0.false
