-- A row's line is words, with one space between each and the next, and one LF. Assumes nothing.
use Prim.Native.Nat.{ℕ, ◌+◌}
use native.Mathlib.Omega.{arith}
use mathlib.Core.Path.{◌≡◌, refl, sym, ap, ap₂, ◌∙◌}
use mathlib.Core.List.{List, [], ◌∷◌, ◌++◌, append_assoc}
use Rattle.lines.specs.Decimal.{decimal}
use Rattle.lines.specs.Words.{word}
use Rattle.row.specs.declared.Outcome.{Outcome}
use Rattle.row.specs.declared.Outcome.TheVariants.{Fits, Late, None}
use Rattle.row.specs.declared.Row.{Row}
use Rattle.row.specs.Row.{reported}
use Rattle.wording.specs.Lines.{figure, outcome_word, row_start, row_end, row_line}
use Rattle.wording.specs.Shape.{space, LF, shown, IsWord, AreWords, last, more, parted, line}
use Rattle.wording.proofs.ShapeLaws.{number_is_word, one_word, parted_more, figure_behind, letters}

-- The outcome's own word.
abbrev outcome_name : Outcome → List ℕ
outcome_name (Fits r) = word "fits"
outcome_name (Late r) = word "late"
outcome_name None = word "none"

outcome_named : (o : Outcome) → outcome_word o ≡ (space ∷ outcome_name o) ++ (LF ∷ [])
unfolding word
outcome_named (Fits r) = refl
outcome_named (Late r) = refl
outcome_named None = refl

outcome_is_word : (o : Outcome) → IsWord (outcome_name o)
unfolding word shown
outcome_is_word (Fits r) = letters "fits" (omega arith) refl
outcome_is_word (Late r) = letters "late" (omega arith) refl
outcome_is_word None = letters "none" (omega arith) refl

-- A name, and the number behind it.
abbrev pair : List ℕ → ℕ → List (List ℕ)
pair name n = name ∷ decimal n ∷ []

abbrev start_words : Row → List (List ℕ)
start_words row =
    pair (word "X") row.holding ++ pair (word "local") row.failing ++ pair (word "B") row.blocking ++ pair (word "L") row.active

abbrev jobs_words : Row → List (List ℕ)
jobs_words row =
    start_words row ++
    pair (word "jobs") row.jobs ++
    pair (word "R") (reported row.outcome) ++
    pair (word "job") row.job ++
    pair (word "res") row.resource

-- The words of a row's line.
abbrev pub row_words : ℕ → Row → List (List ℕ)
row_words s row = decimal (s + 1) ∷ (jobs_words row ++ (outcome_name row.outcome ∷ []))

regroup : (a b c d e f : List ℕ) → a ++ (b ++ c ++ d ++ e ++ f) ≡ a ++ b ++ c ++ d ++ e ++ f
regroup a b c d e f = simp append_assoc

module _ (s : ℕ) (row : Row) where
  start_parted : row_start s row ≡ parted (decimal (s + 1) ∷ start_words row)
  unfolding row_start figure word
  start_parted =
      figure_behind (decimal (s + 1)) (pair (word "X") row.holding ++ pair (word "local") row.failing ++ pair (word "B") row.blocking) " L " (word "L") row.active refl
      (figure_behind (decimal (s + 1)) (pair (word "X") row.holding ++ pair (word "local") row.failing) " B " (word "B") row.blocking refl
      (figure_behind (decimal (s + 1)) (pair (word "X") row.holding) " local " (word "local") row.failing refl
      (figure_behind (decimal (s + 1)) [] " X " (word "X") row.holding refl (one_word (decimal (s + 1))))))

  jobs_parted : row_start s row ++ figure " jobs " row.jobs ++ figure " R " (reported row.outcome) ++ figure " job " row.job ++ figure " res " row.resource ≡ parted (decimal (s + 1) ∷ jobs_words row)
  unfolding figure word
  jobs_parted =
      figure_behind (decimal (s + 1)) (start_words row ++ pair (word "jobs") row.jobs ++ pair (word "R") (reported row.outcome) ++ pair (word "job") row.job) " res " (word "res") row.resource refl
      (figure_behind (decimal (s + 1)) (start_words row ++ pair (word "jobs") row.jobs ++ pair (word "R") (reported row.outcome)) " job " (word "job") row.job refl
      (figure_behind (decimal (s + 1)) (start_words row ++ pair (word "jobs") row.jobs) " R " (word "R") (reported row.outcome) refl
      (figure_behind (decimal (s + 1)) (start_words row) " jobs " (word "jobs") row.jobs refl start_parted)))

  pub row_line_line : row_line s row ≡ line (row_words s row)
  unfolding row_line row_end line
  row_line_line =
      regroup (row_start s row) (figure " jobs " row.jobs) (figure " R " (reported row.outcome)) (figure " job " row.job) (figure " res " row.resource) (outcome_word row.outcome) ∙
      ap₂ ◌++◌ jobs_parted (outcome_named row.outcome) ∙
      sym (append_assoc (parted (decimal (s + 1) ∷ jobs_words row)) (space ∷ outcome_name row.outcome) (LF ∷ [])) ∙
      ap (λ (l : List ℕ). l ++ (LF ∷ [])) (parted_more (decimal (s + 1)) (jobs_words row) (outcome_name row.outcome))

  pub row_line_words : AreWords (row_words s row)
  unfolding word shown
  row_line_words =
      more (number_is_word (s + 1))
      (more (letters "X" (omega arith) refl) (more (number_is_word row.holding)
      (more (letters "local" (omega arith) refl) (more (number_is_word row.failing)
      (more (letters "B" (omega arith) refl) (more (number_is_word row.blocking)
      (more (letters "L" (omega arith) refl) (more (number_is_word row.active)
      (more (letters "jobs" (omega arith) refl) (more (number_is_word row.jobs)
      (more (letters "R" (omega arith) refl) (more (number_is_word (reported row.outcome))
      (more (letters "job" (omega arith) refl) (more (number_is_word row.job)
      (more (letters "res" (omega arith) refl) (more (number_is_word row.resource)
      (last (outcome_is_word row.outcome))))))))))))))))))
