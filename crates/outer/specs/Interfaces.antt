-- What interfaces mean, and how lines of numbers hold them: line s is P(s), Q(s), and X(s, l) for each resource. Steps 6 to 11
-- are defined over the meaning. Indices count from 0 here; document 01 counts from 1. Assumes nothing.
use Rattle.std.specs.Prelude.{ℕ, ◌+◌, List, [], get_or}
use Rattle.lists.specs.Range.{up_to}

-- An interface: period P, budget Q, and the holding time X(s, l) of each of the M resources.
pub record InterfaceM : Type 0 where
  pub period : ℕ
  pub budget : ℕ
  pub holdings : List ℕ

-- Interfaces: M, and one interface for each of the N subsystems.
pub record InterfacesM : Type 0 where
  pub resources : ℕ
  pub interfaces : List InterfaceM

-- P(s), the first number of line s. Past the end, everything is 0.
unfoldable pub period_at : List (List ℕ) → ℕ → ℕ
period_at lines s = get_or (get_or lines s []) 0 0

-- Q(s), the second.
unfoldable pub budget_at : List (List ℕ) → ℕ → ℕ
budget_at lines s = get_or (get_or lines s []) 1 0

-- X(s, l), which stand after them.
unfoldable pub held_at : List (List ℕ) → ℕ → ℕ → ℕ
held_at lines s l = get_or (get_or lines s []) (l + 2) 0

-- The interface on line s, with its first m holding times.
unfoldable pub interface_at : ℕ → List (List ℕ) → ℕ → InterfaceM
interface_at m lines s =
    record {
      period = period_at lines s;
      budget = budget_at lines s;
      holdings = up_to (held_at lines s) m;
    }

-- The interfaces on the first n lines, over m resources. Slots past the counts may hold anything.
unfoldable pub interfaces_in : ℕ → ℕ → List (List ℕ) → InterfacesM
interfaces_in n m lines = record { resources = m; interfaces = up_to (interface_at m lines) n }
