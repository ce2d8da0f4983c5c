-- Laws of the report: what a refusal gives, and what an admitted table's rows and acceptance make up; a report hangs on what
-- a table means alone. Assumes nothing.
use Prim.Native.Nat.{ℕ}
use mathlib.Core.Path.{◌≡◌, sym, ap, ap₂, ◌∙◌}
use mathlib.Core.Bool.{Bool, false}
use mathlib.Core.List.{List}
use lib.ListN.{replicate}
use Rattle.lists.specs.Range.{all_to, padded}
use Rattle.table.specs.Limits.{most}
use Rattle.table.specs.declared.Table.{Table}
use Rattle.table.specs.Meaning.{System, meaning, MeanTheSame}
use Rattle.table.specs.Parts.{subsystem_count}
use Rattle.std.specs.Prelude.{Err}
use Rattle.rules.specs.declared.Broken.{Broken}
use Rattle.rules.specs.Judged.{Judged, admitted}
use Rattle.rules.specs.Rules.{judge_of}
use Rattle.row.specs.declared.Row.{Row}
use Rattle.report.specs.declared.Report.{Report}
use Rattle.rows.specs.Rows.{row_at, no_row}
use Rattle.report.specs.Report.{accepted_at, accepted, slot_accepted, report_for, report_of}
use Rattle.report.proofs.AcceptedLaws.{slots_are_rows}

report_of_lem : (sys : System) (j : Judged) → j ≡ judge_of sys → report_for j sys ≡ report_of sys
unfolding report_of
report_of_lem sys j e = ap (λ (k : Judged). report_for k sys) e

-- A refused system: the rule and the place, not accepted, and rows of zeros.
pub refused_report :
    (sys : System) (j : Judged) (broken : Broken) (r : Report) → j ≡ judge_of sys → j ≡ Err broken →
    r ≡ record { judged = Err broken; accepted = false; rows = replicate most no_row } → r ≡ report_of sys
refused_report sys j broken r e q f =
    f ∙ ap (λ (i : Judged). report_for i sys) (sym q) ∙ report_of_lem sys j e

-- An admitted system: its rows, and whether each is accepted.
pub admitted_report :
    (sys : System) (j : Judged) (acc : Bool) (rows : List Row) (n : ℕ) → j ≡ judge_of sys → j ≡ admitted →
    subsystem_count sys ≡ n → rows ≡ padded (row_at sys) no_row most n → acc ≡ all_to (slot_accepted rows) n →
    record { judged = admitted; accepted = acc; rows = rows } ≡ report_of sys
unfolding accepted accepted_at
admitted_report sys j acc rows n e a q r c =
    let x : acc ≡ accepted sys = c ∙ slots_are_rows (row_at sys) no_row n most rows r ∙ ap (all_to (accepted_at sys)) (sym q) in
    let y : rows ≡ padded (row_at sys) no_row most (subsystem_count sys) = r ∙ ap (padded (row_at sys) no_row most) (sym q) in
    ap₂ (λ (b : Bool) (l : List Row). record { judged = admitted; accepted = b; rows = l }) x y ∙
    ap (λ (i : Judged). report_for i sys) (sym a) ∙ report_of_lem sys j e

-- Two tables that mean the same get the same report.
pub same_report : (t t' : Table) → MeanTheSame t t' → report_of (meaning t) ≡ report_of (meaning t')
unfolding MeanTheSame
same_report t t' e = ap report_of e
