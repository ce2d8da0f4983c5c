-- Laws of the decoders: a line is filled in number by number. Assumes nothing.
use Prim.Native.Nat.{ℕ, ◌+◌, ◌*◌, ◌≤◌, ◌<◌}
use native.Mathlib.Omega.{arith}
use mathlib.Core.Path.{◌≡◌, refl, sym, subst, ◌∙◌}
use mathlib.Core.List.{List}
use lib.ListN.{get_or, set, length-set}
use lib.Seq.{get_or-set_same}
use Rattle.lists.proofs.Filled.{Filled, filled_more, kept_before}
use Rattle.lists.proofs.UpTo.{get_d_padded}
use Rattle.table.specs.Limits.{most}
use Rattle.table.specs.Meaning.{access_at}
use Rattle.table.specs.Grid.{IsLine, LineOf}
use Rattle.stored.specs.Numbers.{number_size, number_at}
use Rattle.stored.specs.Field.{count_at}
use Rattle.stored.specs.Decode.{decoded_subsystem, decoded_access, decoded_task}
use Rattle.stored.specs.HeadLine.{HeadLine}

-- A line with three numbers stored at its start.
abbrev pub started_with : List ℕ → ℕ → ℕ → ℕ → List ℕ
started_with line a b c = set (set (set line 0 a) 1 b) 2 c

module _ (line : List ℕ) (size : IsLine line) (a b c : ℕ) where
  pub started_line : IsLine (started_with line a b c)
  started_line = length-set (set (set line 0 a) 1 b) 2 c ∙ length-set (set line 0 a) 1 b ∙ length-set line 0 a ∙ size

  pub first_is : get_or (started_with line a b c) 0 0 ≡ a
  first_is =
      kept_before 0 (set (set line 0 a) 1 b) 2 0 c (omega arith) ∙ kept_before 0 (set line 0 a) 1 0 b (omega arith) ∙
      get_or-set_same line 0 a 0 (omega (arith, size))

  pub second_is : get_or (started_with line a b c) 1 0 ≡ b
  second_is =
      kept_before 0 (set (set line 0 a) 1 b) 2 1 c (omega arith) ∙
      get_or-set_same (set line 0 a) 1 b 0 (omega (arith, size, length-set line 0 a))

  pub third_is : get_or (started_with line a b c) 2 0 ≡ c
  third_is = get_or-set_same (set (set line 0 a) 1 b) 2 c 0 (omega (arith, size, length-set line 0 a, length-set (set line 0 a) 1 b))

  pub head_line_is : (value : List ℕ) → a ≡ number_at value 0 → b ≡ number_at value number_size → c ≡ get_or value count_at 0 → HeadLine (decoded_subsystem value) (started_with line a b c)
  unfolding decoded_subsystem
  head_line_is value p q n = record { period_is = first_is ∙ p; budget_is = second_is ∙ q; count_is = third_is ∙ n }

module _ (m : ℕ) (value : List ℕ) where
  -- The times are written, and no access yet.
  pub line_begins : (line : List ℕ) → IsLine line → (a b c : ℕ) → a ≡ number_at value 0 → b ≡ number_at value number_size → c ≡ number_at value (2 * number_size) → LineOf 0 (decoded_task m value) (started_with line a b c)
  unfolding decoded_task
  line_begins line size a b c t w d =
      record {
        separation_is = first_is line size a b c ∙ t;
        work_is = second_is line size a b c ∙ w;
        deadline_is = third_is line size a b c ∙ d;
        access_is = λ l k. absurd (omega arith);
      }

  pub access_decoded : (l : ℕ) → l < m → access_at (decoded_task m value) l ≡ decoded_access value l
  unfolding access_at decoded_task
  access_decoded l h = get_d_padded (decoded_access value) 0 0 most m l h

  -- The next access is written.
  pub one_access_more : (l c : ℕ) (line : List ℕ) → l < m → m ≤ most → IsLine line → LineOf l (decoded_task m value) line → c ≡ decoded_access value l → LineOf (l + 1) (decoded_task m value) (set line (l + 3) c)
  unfolding Filled
  one_access_more l c line h r size t e =
      record {
        separation_is = kept_before 0 line (l + 3) 0 c (omega arith) ∙ t.separation_is;
        work_is = kept_before 0 line (l + 3) 1 c (omega arith) ∙ t.work_is;
        deadline_is = kept_before 0 line (l + 3) 2 c (omega arith) ∙ t.deadline_is;
        access_is = filled_more 0 (λ k x. x ≡ access_at (decoded_task m value) k) 3 line l (l + 3) c refl (omega (arith, size)) t.access_is (e ∙ sym (access_decoded l h));
      }

  -- After the last access the line is whole.
  pub line_ends : (l : ℕ) (line : List ℕ) → l ≡ m → LineOf l (decoded_task m value) line → LineOf m (decoded_task m value) line
  line_ends l line e t = subst (λ (k : ℕ). LineOf k (decoded_task m value) line) e t
