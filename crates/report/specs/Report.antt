-- Acceptance (step 12) and the report, over what a table means; crate `rows` has the rows. Indices count from 0. Assumes nothing.
use Rattle.std.specs.Prelude.{ℕ, Bool, true, false, ◌&&◌, eqb, List, get_or, replicate, Ok, Err}
use Rattle.lists.specs.Range.{all_to, padded}
use Rattle.table.specs.Limits.{most}
use Rattle.table.specs.Meaning.{System}
use Rattle.table.specs.Parts.{subsystem_count}
use Rattle.rules.specs.Judged.{Judged, admitted}
use Rattle.rules.specs.Rules.{judge_of}
use Rattle.row.specs.declared.Outcome.{Outcome}
use Rattle.row.specs.declared.Outcome.TheVariants.{Fits, Late, None}
use Rattle.row.specs.declared.Row.{Row}
use Rattle.report.specs.declared.Report.{Report}
use Rattle.rows.specs.Rows.{row_at, row_of_zeros, no_row}

-- Whether a row fits.
abbrev pub fits : Outcome → Bool
fits (Fits r) = true
fits (Late r) = false
fits None = false

-- Whether every task of the row's subsystem passes and the row fits.
unfoldable pub row_accepted : Row → Bool
row_accepted row = eqb row.failing 0 && fits row.outcome

unfoldable pub accepted_at : System → ℕ → Bool
accepted_at sys s = row_accepted (row_at sys s)

-- Step 12. Accepted: every task passes and every row fits.
unfoldable pub accepted : System → Bool
accepted sys = all_to (accepted_at sys) (subsystem_count sys)

-- What stands past the end of an array of rows. No count reaches there.
abbrev pub past_rows : Row
past_rows = row_of_zeros (Fits 0)

-- Whether the row in a slot is accepted.
unfoldable pub slot_accepted : List Row → ℕ → Bool
slot_accepted rows s = row_accepted (get_or rows s past_rows)

-- The report of a system that was judged so.
abbrev pub report_for : Judged → System → Report
report_for (Err r) sys = record { judged = Err r; accepted = false; rows = replicate most no_row }
report_for (Ok _) sys =
    record { judged = admitted; accepted = accepted sys; rows = padded (row_at sys) no_row most (subsystem_count sys) }

-- The report of a system: refused with number and place and no figure, or its rows by subsystem.
unfoldable pub report_of : System → Report
report_of sys = report_for (judge_of sys) sys
