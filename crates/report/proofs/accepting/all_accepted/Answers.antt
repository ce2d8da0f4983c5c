-- `report::accepting::all_accepted` meets its contract: it goes through the first n rows. Assumes nothing.
use mathlib.Core.Path.{◌≡◌}
use mathlib.Core.Bool.{true, false}
use borrow.Author.Rules.{rules}
use lib.ListN.{take}
use Rattle.std.proofs.lemmas.Iterator.{cases_from_all, YieldsList-from_slice}
use Rattle.row.specs.declared.Row.{Row}
use Rattle.report.specs.Report.{row_accepted}
use Rattle.report.proofs.AcceptedLaws.{each_of_the_first}
use Rattle.report.proofs.accepting.all_accepted.Goals as goal

pub returns : goal.returns
returns c =
    each_of_the_first c.args.rows c.args.n _ (search rules)
    (cases_from_all _ _ _ (λ (row : Row). row_accepted row ≡ true) (λ (row : Row). row_accepted row ≡ false) c.all.ensures.ran (YieldsList-from_slice (take c.args.n c.args.rows) cc) (λ x q k. search rules) (λ x q k. search rules))
