-- What the other subsystems see of each subsystem of a system: period, budget, and the holding time of each resource.
-- Indices count from 0; document 01 counts from 1. Assumes nothing.
use Rattle.std.specs.Prelude.{ℕ}
use Rattle.lists.specs.Range.{up_to}
use Rattle.table.specs.Meaning.{SubsystemM, System}
use Rattle.table.specs.Parts.{subsystem_count, subsystem_of}
use Rattle.holding.specs.Holding.{resource_holding}
use Rattle.outer.specs.Interfaces.{InterfaceM, InterfacesM}

-- P, Q and X(s, l) for each of m resources.
unfoldable pub interface_from : ℕ → SubsystemM → InterfaceM
interface_from m u = record { period = u.period; budget = u.budget; holdings = up_to (resource_holding u) m }

unfoldable pub interface_at : System → ℕ → InterfaceM
interface_at sys s = interface_from sys.resources (subsystem_of sys s)

-- M, and the interface of each subsystem.
unfoldable pub interfaces_from : System → InterfacesM
interfaces_from sys = record { resources = sys.resources; interfaces = up_to (interface_at sys) (subsystem_count sys) }
