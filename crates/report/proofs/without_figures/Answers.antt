-- `report::without_figures` meets its contract. Assumes nothing.
use mathlib.Core.Path.{refl}
use Rattle.report.proofs.without_figures.Goals as goal

pub returns : goal.returns
returns c =
    rw c.no_row.ensures refl
