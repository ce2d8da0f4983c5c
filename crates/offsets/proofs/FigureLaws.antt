-- Laws of a report's figures: how many they are, that numbers put in a row are a row's or a head's, and that figures put row
-- by row are all figures. Assumes nothing.
use Prim.Native.Nat.{ℕ, ◌*◌, ◌≤◌}
use native.Mathlib.Omega.{arith}
use mathlib.Core.Path.{◌≡◌, refl, sym, ap, ap₂, ◌∙◌}
use mathlib.Core.Bool.{Bool}
use mathlib.Core.List.{List, [], ◌∷◌, ◌++◌, flat_map}
use lib.ListN.{length}
use Rattle.lists.specs.Range.{up_to}
use Rattle.table.specs.Limits.{most}
use Rattle.row.specs.declared.Row.{Row}
use Rattle.row.specs.Row.{reported}
use Rattle.report.specs.declared.Report.{Report}
use Rattle.report.specs.Report.{past_rows}
use Rattle.stored.specs.Numbers.{number_size}
use Rattle.stored.specs.File.{number_bytes}
use Rattle.stored.specs.Write.{IsPut}
use Rattle.stored.proofs.FileLaws.{flat_map_append, length_flat_map, length_accesses}
use Rattle.stored.proofs.WriteSteps.{put_the_same}
use Rattle.offsets.specs.declared.Judgement.{Judgement}
use Rattle.offsets.specs.Judgement.{table_judgement, place_size, place_bytes}
use Rattle.offsets.specs.Figures.{outcome_number, flag, row_figures, head_figures, figures, counted, figures_of, head_count, row_count}
use Rattle.stored.proofs.Elements.{element_at, all_elements}

------------------------------------------------------------------------
-- Numbers in a row

module _ (before after : List ℕ) (k : ℕ) where
  pub head_is_put :
      (j : Judgement) (accepted : Bool) (n f : ℕ) → f ≡ flag accepted →
      IsPut (flat_map number_bytes (j.number ∷ j.first ∷ j.second ∷ f ∷ n ∷ [])) before after k →
      IsPut (flat_map number_bytes (head_figures j accepted n)) before after k
  unfolding head_figures
  head_is_put j accepted n f e put =
      put_the_same _ _ before after k
      (ap (λ (x : ℕ). flat_map number_bytes (j.number ∷ j.first ∷ j.second ∷ x ∷ n ∷ [])) e) put

  pub row_is_put :
      (row : Row) (r o : ℕ) → r ≡ reported row.outcome → o ≡ outcome_number row.outcome →
      IsPut
      (flat_map number_bytes
      (row.holding ∷
      row.failing ∷
      row.blocking ∷
      row.active ∷
      row.jobs ∷
      r ∷
      row.job ∷
      row.resource ∷
      o ∷
      []))
      before after k →
      IsPut (flat_map number_bytes (row_figures row)) before after k
  unfolding row_figures
  row_is_put row r o e f put =
      put_the_same _ _ before after k
      (ap₂
      (λ (x y : ℕ).
      flat_map number_bytes
      (row.holding ∷
      row.failing ∷
      row.blocking ∷
      row.active ∷
      row.jobs ∷
      x ∷
      row.job ∷
      row.resource ∷
      y ∷
      []))
      e
      f)
      put

------------------------------------------------------------------------
-- How many figures there are

pub count_of_head : (j : Judgement) (accepted : Bool) (n : ℕ) → length (head_figures j accepted n) ≡ head_count
unfolding head_figures
count_of_head j accepted n = refl

pub count_of_row : (row : Row) → length (row_figures row) ≡ row_count
unfolding row_figures
count_of_row row = refl

-- The bytes of a row's figures.
unfoldable pub row_bytes : Row → List ℕ
row_bytes row = flat_map number_bytes (row_figures row)

pub length_row_bytes : (row : Row) → length (row_bytes row) ≡ number_size * row_count
unfolding row_bytes
length_row_bytes row = length_accesses (row_figures row) ∙ ap (λ (k : ℕ). number_size * k) (count_of_row row)

pub length_head_bytes : (j : Judgement) (accepted : Bool) (n : ℕ) → length (flat_map number_bytes (head_figures j accepted n)) ≡ number_size * head_count
length_head_bytes j accepted n =
    length_accesses (head_figures j accepted n) ∙ ap (λ (k : ℕ). number_size * k) (count_of_head j accepted n)

pub length_place_bytes : (j : Judgement) → length (place_bytes j) ≡ place_size
unfolding place_bytes
length_place_bytes j = length_accesses (j.first ∷ j.second ∷ [])

------------------------------------------------------------------------
-- Row by row

-- The bytes of all figures are the bytes of the rows, row by row.
pub bytes_row_by_row : (rows : List Row) → flat_map number_bytes (flat_map row_figures rows) ≡ flat_map row_bytes rows
unfolding flat_map row_bytes
bytes_row_by_row [] = refl
bytes_row_by_row (row ∷ rows) =
    flat_map_append number_bytes (row_figures row) (flat_map row_figures rows) ∙
    ap (λ (l : List ℕ). flat_map number_bytes (row_figures row) ++ l) (bytes_row_by_row rows)

module _ (rows : List Row) (n : ℕ) (eight : length rows ≡ n) where
  rows_by_index : flat_map row_bytes (up_to (element_at past_rows rows) n) ≡ flat_map number_bytes (flat_map row_figures rows)
  rows_by_index =
      ap (λ (k : ℕ). flat_map row_bytes (up_to (element_at past_rows rows) k)) (sym eight) ∙
      ap (flat_map row_bytes) (all_elements past_rows rows) ∙ sym (bytes_row_by_row rows)

  pub rows_have_room :
      (free : List ℕ) → n * (number_size * row_count) ≤ length free →
      length (flat_map row_bytes (up_to (element_at past_rows rows) n)) ≤ length free
  rows_have_room free h =
      let e : length (flat_map row_bytes (up_to (element_at past_rows rows) n)) ≡ length rows * (number_size * row_count)
      = ap length (rows_by_index ∙ bytes_row_by_row rows) ∙ length_flat_map row_bytes (number_size * row_count) length_row_bytes rows in
      omega (arith, e)

  pub rows_are_put :
      (before after : List ℕ) (k : ℕ) → IsPut (flat_map row_bytes (up_to (element_at past_rows rows) n)) before after k →
      IsPut (flat_map number_bytes (flat_map row_figures rows)) before after k
  rows_are_put before after k put = put_the_same _ _ before after k rows_by_index put

-- Eight rows have room where four bytes for each of their figures have.
pub eight_rows_have_room :
    (rows : List Row) (free : List ℕ) → length rows ≡ most → number_size * (most * row_count) ≤ length free →
    length (flat_map row_bytes (up_to (element_at past_rows rows) most)) ≤ length free
eight_rows_have_room rows free eight h = rows_have_room rows most eight free (omega (arith, h))

pub length_rows : (rows : List Row) (n : ℕ) → length rows ≡ n → length (flat_map number_bytes (flat_map row_figures rows)) ≡ n * (number_size * row_count)
length_rows rows n e =
    ap length (bytes_row_by_row rows) ∙ length_flat_map row_bytes (number_size * row_count) length_row_bytes rows ∙
    ap (λ (k : ℕ). k * (number_size * row_count)) e

-- The head's figures and then the rows' are all figures.
pub head_then_rows :
    (j : Judgement) (accepted : Bool) (n : ℕ) (rows : List Row) →
    flat_map number_bytes (head_figures j accepted n) ++ flat_map number_bytes (flat_map row_figures rows) ≡
    flat_map number_bytes (figures j accepted n rows)
unfolding figures
head_then_rows j accepted n rows = sym (flat_map_append number_bytes (head_figures j accepted n) (flat_map row_figures rows))

-- The figures of a report, by its parts.
pub report_is_put :
    (report : Report) (n count : ℕ) (j : Judgement) (before after : List ℕ) (k : ℕ) → j ≡ table_judgement report.judged →
    count ≡ counted report.judged n →
    IsPut (flat_map number_bytes (figures j report.accepted count report.rows)) before after k →
    IsPut (flat_map number_bytes (figures_of report n)) before after k
unfolding figures_of
report_is_put report n count j before after k e f put =
    put_the_same _ _ before after k
    (ap₂ (λ (i : Judgement) (m : ℕ). flat_map number_bytes (figures i report.accepted m report.rows)) e f) put
