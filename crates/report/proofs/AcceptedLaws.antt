-- Laws of acceptance: what the tests on a row settle. Assumes nothing.
use Prim.Native.Nat.{ℕ, ◌+◌, ◌≤◌, ◌<◌}
use native.Mathlib.Omega.{arith}
use mathlib.Core.Path.{◌≡◌, sym, ap, ◌∙◌}
use mathlib.Core.Bool.{Bool, true, false}
use mathlib.Core.List.{List}
use borrow.Author.Tests.{eq-eqb, ne_eqb}
use lib.ListN.{length, get_or, take}
use lib.Seq.{length-take-le, get_or-take}
use Rattle.std.specs.Bool.{MatchBool}
use Rattle.std.specs.List.{AllWithin, HoldsAt}
use Rattle.lists.specs.Range.{all_to, padded}
use Rattle.lists.proofs.Over.{all_to_suc, all_to_is, all_to_fails, all_to_ext}
use Rattle.lists.proofs.UpTo.{get_d_padded}
use Rattle.row.specs.declared.Row.{Row}
use Rattle.report.specs.Report.{fits, row_accepted, slot_accepted, past_rows}

-- Every task passes: whether the row fits decides.
pub accepted_by_fit : (row : Row) (b : Bool) → row.failing ≡ 0 → b ≡ fits row.outcome → b ≡ row_accepted row
unfolding row_accepted
accepted_by_fit row b h e = rw (eq-eqb row.failing 0 h) e

-- Some task fails.
pub rejected_by_task : (row : Row) → (row.failing ≡ 0 → ⊥) → false ≡ row_accepted row
unfolding row_accepted
rejected_by_task row h = rw (ne_eqb row.failing 0 h)

module _ (rows : List Row) (n : ℕ) where
  -- So far every row is accepted.
  pub row_accepted_lem :
      (s : ℕ) → (b : Bool) → b ≡ row_accepted (get_or rows s past_rows) → b ≡ true → all_to (slot_accepted rows) s ≡ true →
      all_to (slot_accepted rows) (s + 1) ≡ true
  unfolding slot_accepted
  row_accepted_lem s b e f a = all_to_suc (slot_accepted rows) s ∙ rw a (sym e ∙ f)

-- The first n rows, gone through one by one: each is accepted, or one of them is not.
pub each_of_the_first :
    (rows : List Row) (n : ℕ) (b : Bool) → n ≤ length rows →
    MatchBool b (AllWithin (λ row. row_accepted row ≡ true) (take n rows) 0 (length (take n rows)))
    ((k : ℕ) × (k < length (take n rows)) × HoldsAt (λ row. row_accepted row ≡ false) (take n rows) k) →
    b ≡ all_to (slot_accepted rows) n
unfolding slot_accepted
each_of_the_first rows n true within h =
    sym (all_to_is (slot_accepted rows) n (λ s l. rw (get_or-take n rows s past_rows l) at (h s past_rows (omega arith) (omega (arith, length-take-le n rows within)))))
each_of_the_first rows n false within h =
    let s_in : h.0 < n = omega (arith, h.1, length-take-le n rows within) in
    sym (all_to_fails (slot_accepted rows) n h.0 s_in (rw (get_or-take n rows h.0 past_rows s_in) at (h.2 past_rows)))

-- The slots of a report's rows are the rows of the subsystems.
pub slots_are_rows : (f : ℕ → Row) (d : Row) (n k : ℕ) (rows : List Row) → rows ≡ padded f d k n → all_to (slot_accepted rows) n ≡ all_to (λ s. row_accepted (f s)) n
unfolding slot_accepted
slots_are_rows f d n k rows e =
    all_to_ext (slot_accepted rows) (λ s. row_accepted (f s)) n
    (λ s h. ap row_accepted (ap (λ (l : List Row). get_or l s past_rows) e ∙ get_d_padded f d past_rows k n s h))
