-- What the rules leave of interfaces: the facts that steps 6 to 11 rest on. Assumes nothing.
use Rattle.std.specs.Prelude.{ℕ, ◌+◌, ◌≤◌, ◌<◌}
use Rattle.table.specs.Limits.{most, largest}
use Rattle.outer.specs.Interfaces.{InterfacesM}
use Rattle.outer.specs.Parts.{count, period_of, budget_of, holding}

-- Interfaces of an admitted table: counts within the limit, 1 ≤ Q, and Q + X ≤ P ≤ 1,000,000.
pub record Sound (g : InterfacesM) : Type 0 where
  pub some_subsystem : 1 ≤ count g
  pub few_subsystems : count g ≤ most
  pub few_resources : g.resources ≤ most
  pub period_small : (s : ℕ) → s < count g → period_of g s ≤ largest
  pub budget_pos : (s : ℕ) → s < count g → 1 ≤ budget_of g s
  pub fits : (s : ℕ) → s < count g → budget_of g s + holding g s ≤ period_of g s
