-- What steps 7 to 11 need to know for one subsystem: the loads of all subsystems, and its own numbers. Indices count from 0;
-- document 01 counts from 1. Assumes nothing.
use Rattle.std.specs.Prelude.{ℕ, ◌+◌, List, length, get_or}
use Rattle.lists.specs.Range.{largest_to, up_to}
use Rattle.outer.specs.Interfaces.{InterfacesM}
use Rattle.outer.specs.Parts.{periods, costs, period_of, budget_of, holding_of}
use Rattle.outer.specs.Blocking.{outer_ceiling, blocking}

pub record View : Type 0 where
  -- of each subsystem: P(t), and Q(t) + X(t)
  pub periods : List ℕ
  pub costs : List ℕ
  -- of each resource: X(s, l), and RC(l)
  pub holdings : List ℕ
  pub ceilings : List ℕ
  -- s, P(s), Q(s) and B(s)
  pub place : ℕ
  pub period : ℕ
  pub budget : ℕ
  pub blocking : ℕ

-- What subsystem s has before it.
unfoldable pub view_of : InterfacesM → ℕ → View
view_of g s =
    record {
      periods = periods g;
      costs = costs g;
      holdings = up_to (holding_of g s) g.resources;
      ceilings = up_to (outer_ceiling g) g.resources;
      place = s;
      period = period_of g s;
      budget = budget_of g s;
      blocking = blocking g s;
    }

-- M, X(s, l) and RC(l).
abbrev pub resources : View → ℕ
resources v = length v.holdings

unfoldable pub held : View → ℕ → ℕ
held v l = get_or v.holdings l 0

unfoldable pub ceiling : View → ℕ → ℕ
ceiling v l = get_or v.ceilings l 0

-- Step 2. X(s): the largest X(s, l), 0 where there is none.
unfoldable pub overrun : View → ℕ
overrun v = largest_to (held v) (resources v)

-- Q(s) + X(s).
unfoldable pub cost : View → ℕ
cost v = v.budget + overrun v
