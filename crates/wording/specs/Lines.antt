-- The lines that `check` prints: of a refused file, of a refused table, and of a row. Assumes nothing.
use Rattle.std.specs.Prelude.{ℕ, ◌+◌, Bool, true, false, List, ◌++◌}
use Prim.Native.String.{String}
use Rattle.lines.specs.Decimal.{decimal}
use Rattle.lines.specs.Words.{word}
use Rattle.rules.specs.Refusal.{Refusal}
use Rattle.stored.specs.declared.FileRefusal.{FileRefusal}
use Rattle.row.specs.declared.Outcome.{Outcome}
use Rattle.row.specs.declared.Outcome.TheVariants.{Fits, Late, None}
use Rattle.row.specs.declared.Row.{Row}
use Rattle.row.specs.Row.{reported}

-- A word, and a number behind it.
unfoldable pub figure : String → ℕ → List ℕ
figure label n = word label ++ decimal n

-- refused NUMBER at OFFSET
unfoldable pub refused_file : FileRefusal → List ℕ
refused_file r = figure "refused " r.number ++ figure " at " r.offset ++ word "\n"

-- refused NUMBER at SUBSYSTEM TASK
unfoldable pub refused_table : Refusal → List ℕ
refused_table r = figure "refused " r.number ++ figure " at " r.subsystem ++ figure " " r.task ++ word "\n"

-- The first line of an admitted table.
abbrev pub verdict : Bool → List ℕ
verdict true = word "accepted\n"
verdict false = word "rejected\n"

-- The last word of a row.
abbrev pub outcome_word : Outcome → List ℕ
outcome_word (Fits r) = word " fits\n"
outcome_word (Late r) = word " late\n"
outcome_word None = word " none\n"

-- The line of the subsystem at index s, counted from 1: index, X, first failing task, B, L, jobs, R, its job, its resource,
-- outcome. The first five are known before any job is; the others speak of the jobs.
unfoldable pub row_start : ℕ → Row → List ℕ
row_start s row =
    decimal (s + 1) ++
    figure " X " row.holding ++
    figure " local " row.failing ++
    figure " B " row.blocking ++
    figure " L " row.active

unfoldable pub row_end : Row → List ℕ
row_end row =
    figure " jobs " row.jobs ++
    figure " R " (reported row.outcome) ++
    figure " job " row.job ++
    figure " res " row.resource ++
    outcome_word row.outcome

unfoldable pub row_line : ℕ → Row → List ℕ
row_line s row = row_start s row ++ row_end row
