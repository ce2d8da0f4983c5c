-- The row of each subsystem, over what a table means (steps 5 and 11 put together). Indices count from 0. Assumes nothing.
use Rattle.std.specs.Prelude.{ℕ}
use Rattle.table.specs.Meaning.{System}
use Rattle.table.specs.Parts.{subsystem_of}
use Rattle.local.specs.Passing.{first_failing, giving_end}
use Rattle.row.specs.declared.Outcome.{Outcome}
use Rattle.row.specs.declared.Outcome.TheVariants.{None}
use Rattle.row.specs.declared.Row.{Row}
use Rattle.row.specs.Row.{row_of}
use Rattle.rows.specs.Interfaces.{interfaces_from}

-- The first failing task of subsystem s, 0 if none, with E = P − X.
unfoldable pub failing_at : System → ℕ → ℕ
failing_at sys s = first_failing sys.resources (subsystem_of sys s) (giving_end sys.resources (subsystem_of sys s))

-- The row of subsystem s.
unfoldable pub row_at : System → ℕ → Row
row_at sys s = row_of (interfaces_from sys) s (failing_at sys s)

-- A row whose figures are all zero.
abbrev pub row_of_zeros : Outcome → Row
row_of_zeros outcome =
    record {
      holding = 0;
      failing = 0;
      blocking = 0;
      active = 0;
      jobs = 0;
      job = 0;
      resource = 0;
      outcome = outcome;
    }

-- The row that stands past N, and everywhere in a refused report: zero, with outcome none.
abbrev pub no_row : Row
no_row = row_of_zeros None
