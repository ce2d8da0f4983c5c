-- The parts of interfaces by index, total: past the end everything is 0. Indices count from 0; document 01 counts from 1.
-- Assumes nothing.
use Rattle.std.specs.Prelude.{ℕ, ◌+◌, ◌-◌, List, [], length, get_or}
use Rattle.lists.specs.Range.{largest_to, up_to}
use Rattle.outer.specs.Interfaces.{InterfaceM, InterfacesM}

-- What stands past the end.
abbrev pub no_interface : InterfaceM
no_interface = record { period = 0; budget = 0; holdings = [] }

-- N, the number of subsystems, and the interface at an index.
unfoldable pub count : InterfacesM → ℕ
count g = length g.interfaces

unfoldable pub interface_of : InterfacesM → ℕ → InterfaceM
interface_of g s = get_or g.interfaces s no_interface

-- P(s), Q(s) and X(s, l).
unfoldable pub period_of : InterfacesM → ℕ → ℕ
period_of g s = (interface_of g s).period

unfoldable pub budget_of : InterfacesM → ℕ → ℕ
budget_of g s = (interface_of g s).budget

unfoldable pub holding_of : InterfacesM → ℕ → ℕ → ℕ
holding_of g s l = get_or (interface_of g s).holdings l 0

-- Step 2. X(s): the largest holding time over the M resources, 0 where there is none.
unfoldable pub holding : InterfacesM → ℕ → ℕ
holding g s = largest_to (holding_of g s) g.resources

-- Q(s) + X(s).
unfoldable pub cost_of : InterfacesM → ℕ → ℕ
cost_of g s = budget_of g s + holding g s

-- What that leaves free of P(s).
unfoldable pub free_of : InterfacesM → ℕ → ℕ
free_of g s = period_of g s - cost_of g s

-- The loads that the subsystems are to each other: once in each period P(s), Q(s) + X(s) ticks.
unfoldable pub periods : InterfacesM → List ℕ
periods g = up_to (period_of g) (count g)

unfoldable pub costs : InterfacesM → List ℕ
costs g = up_to (cost_of g) (count g)
