-- Demand 1, over tables: exact refusals, and that a refusal carries no figures. Places count as the rules do: subsystems and
-- tasks from 1, task 0 for the subsystem itself, 0 0 for the table as a whole. Assumes nothing.
use Rattle.std.specs.Prelude.{ℕ, ◌≡◌, false, ◌↔◌, replicate}
use Rattle.std.proofs.Common.{ap}
use Rattle.table.specs.Limits.{most}
use Rattle.table.specs.declared.Table.{Table}
use Rattle.table.specs.Meaning.{meaning, MeanTheSame}
use Rattle.rules.specs.declared.Rule.{Rule}
use Rattle.rules.specs.declared.Place.{Place}
use Rattle.rules.specs.Judged.{Judged, admitted, refused}
use Rattle.rules.specs.Rules.{judge_of, place}
use Rattle.rules.specs.Exactly.{Breaks, FirstBreak}
use Rattle.rules.proofs.Exactly.{refused_exactly, admitted_exactly}
use Rattle.rows.specs.Rows.{no_row}
use Rattle.report.specs.Report.{report_for, report_of}
use Rattle.report.proofs.ReportLaws.{same_report}

-- A table is refused by rule k at place s i exactly when that place breaks rule k, no earlier place breaks it, and no earlier
-- rule is broken anywhere.
pub table_refused_exactly :
    (t : Table) (k : Rule) (s i : ℕ) → (judge_of (meaning t) ≡ refused k (place s i)) ↔ FirstBreak (meaning t) k s i
table_refused_exactly t k s i = refused_exactly (meaning t) k s i

-- It is admitted exactly when nothing is broken, and never refused on another condition.
pub table_admitted_exactly :
    (t : Table) → (judge_of (meaning t) ≡ admitted) ↔ ((k : Rule) (s i : ℕ) → Breaks (meaning t) k s i → ⊥)
table_admitted_exactly t = admitted_exactly (meaning t)

-- A refused table's report has the rule and the place, is not accepted, and has zero in every figure and none in every row.
pub refused_table_has_no_figures :
    (t : Table) (k : Rule) (p : Place) → judge_of (meaning t) ≡ refused k p →
    report_of (meaning t) ≡ record { judged = refused k p; accepted = false; rows = replicate most no_row }
unfolding report_of
refused_table_has_no_figures t k p e = ap (λ (j : Judged). report_for j (meaning t)) e

-- No answer depends on unused slots: tables that mean the same get the same report.
pub unused_slots_do_not_matter : (t t' : Table) → MeanTheSame t t' → report_of (meaning t) ≡ report_of (meaning t')
unused_slots_do_not_matter t t' e = same_report t t' e
