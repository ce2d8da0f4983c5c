-- A report's figures, in the order in which they stand in a lent buffer, and how many bytes they take. Assumes nothing.
use Rattle.std.specs.Prelude.{ℕ, ◌+◌, ◌*◌, Bool, true, false, replicate, Ok, Err}
use mathlib.Core.List.{List, [], ◌∷◌, ◌++◌, flat_map}
use Rattle.table.specs.Limits.{most}
use Rattle.table.specs.Meaning.{System, meaning}
use Rattle.table.specs.Parts.{subsystem_count}
use Rattle.rules.specs.Judged.{Judged}
use Rattle.row.specs.declared.Outcome.{Outcome}
use Rattle.row.specs.declared.Outcome.TheVariants.{Fits, Late, None}
use Rattle.row.specs.declared.Row.{Row}
use Rattle.row.specs.Row.{reported}
use Rattle.report.specs.declared.Report.{Report}
use Rattle.rows.specs.Rows.{no_row}
use Rattle.report.specs.Report.{report_of}
use Rattle.stored.specs.Answers.{ReadAnswer}
use Rattle.stored.specs.Numbers.{number_size}
use Rattle.stored.specs.Read.{file_refusal, read_of}
use Rattle.offsets.specs.declared.Judgement.{Judgement}
use Rattle.offsets.specs.Judgement.{file_judgement, table_judgement}

-- An outcome and an acceptance as numbers.
abbrev pub outcome_number : Outcome → ℕ
outcome_number None = 0
outcome_number (Fits r) = 1
outcome_number (Late r) = 2

abbrev pub flag : Bool → ℕ
flag false = 0
flag true = 1

-- The nine figures of a row: X, first failing task, B, L, jobs, R, its job, its resource, outcome.
unfoldable pub row_figures : Row → List ℕ
row_figures row =
    row.holding ∷
    row.failing ∷
    row.blocking ∷
    row.active ∷
    row.jobs ∷
    reported row.outcome ∷
    row.job ∷
    row.resource ∷
    outcome_number row.outcome ∷
    []

-- The five figures before the rows: number, the two numbers of the place, accepted, N.
unfoldable pub head_figures : Judgement → Bool → ℕ → List ℕ
head_figures j accepted n = j.number ∷ j.first ∷ j.second ∷ flag accepted ∷ n ∷ []

-- All figures.
unfoldable pub figures : Judgement → Bool → ℕ → List Row → List ℕ
figures j accepted n rows = head_figures j accepted n ++ flat_map row_figures rows

-- N as a report states it: a refused table has zero in every figure.
abbrev pub counted : Judged → ℕ → ℕ
counted (Err _) n = 0
counted (Ok _) n = n

-- The figures of a report on n subsystems.
unfoldable pub figures_of : Report → ℕ → List ℕ
figures_of report n =
    figures (table_judgement report.judged) report.accepted (counted report.judged n) report.rows

-- The figures of a file that was read so, with what its table means.
abbrev pub figures_for : ReadAnswer → System → List ℕ
figures_for (Err r) sys = figures (file_judgement (file_refusal (Err r))) false 0 (replicate most no_row)
figures_for (Ok _) sys = figures_of (report_of sys) (subsystem_count sys)

unfoldable pub figures_in : List ℕ → List ℕ
figures_in file = figures_for (read_of file).answer (meaning (read_of file).table)

-- How many figures there are before the rows, and in a row.
abbrev pub head_count : ℕ
head_count = 5

abbrev pub row_count : ℕ
row_count = 9

abbrev pub report_size : ℕ
report_size = number_size * (head_count + most * row_count)
