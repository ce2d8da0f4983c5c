-- What the rows of all subsystems share, as the code holds it: the loads, the outer ceilings and the blockings, in arrays filled up with 0.
-- Assumes nothing.
use Rattle.std.specs.Prelude.{ℕ, ◌≡◌, List}
use Rattle.lists.specs.Range.{up_to, padded}
use Rattle.table.specs.Limits.{most}
use Rattle.outer.specs.declared.ceilings.Common.{Common}
use Rattle.outer.specs.Interfaces.{InterfacesM}
use Rattle.outer.specs.Parts.{count, periods, costs, period_of, cost_of, free_of}
use Rattle.outer.specs.Blocking.{outer_ceiling, blocking}

unfoldable pub common_of : InterfacesM → Common
common_of g =
    record {
      periods = padded (period_of g) 0 most (count g);
      costs = padded (cost_of g) 0 most (count g);
      frees = padded (free_of g) 0 most (count g);
      ceilings = padded (outer_ceiling g) 0 most g.resources;
      blockings = padded (blocking g) 0 most (count g);
    }

-- The used parts of it that a row looks at.
pub record Lent (g : InterfacesM) (ps cs rs : List ℕ) : Type 0 where
  pub periods_are : ps ≡ periods g
  pub costs_are : cs ≡ costs g
  pub ceilings_are : rs ≡ up_to (outer_ceiling g) g.resources
