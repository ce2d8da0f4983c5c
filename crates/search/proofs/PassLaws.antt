-- Laws of a pass over the loads: where what there is to do is the same behind it as before, every load was ahead. Assumes nothing.
use Prim.Native.Nat.{ℕ, ◌+◌, ◌≤◌, ◌<◌}
use native.Mathlib.Omega.{arith}
use mathlib.Core.Path.{◌≡◌}
use mathlib.Core.List.{List}
use mathlib.Core.Logic.{⊎_elim}
use lib.ListN.{get_or}
use Rattle.lists.proofs.Over.{le_or_lt}
use Rattle.search.proofs.ClimbLaws.{Quiet}

-- In a pass that began with x at `before`: unless x has grown, the loads up to t are ahead of it.
pub record Passed (ends : List ℕ) (before x t : ℕ) : Type 0 where
  pub grown : before ≤ x
  pub unless_grown : x ≡ before → Quiet ends x 0 t

module _ (ends : List ℕ) (before x : ℕ) where
  -- No load is passed yet.
  pub pass_begins : before ≤ x → Passed ends before x 0
  pass_begins h = record { grown = h; unless_grown = λ _ j a b. absurd (omega arith) }

  -- A load that is ahead is passed.
  pub passes : (t : ℕ) → Passed ends before x t → x ≤ get_or ends t 0 → Passed ends before x (t + 1)
  passes t p ahead =
      record {
        grown = p.grown;
        unless_grown =
            λ e j a b.
            ⊎_elim (λ (w : t ≤ j). let same : j ≡ t = omega arith in rw same ahead) (λ (w : j < t). p.unless_grown e j a w) (le_or_lt t j);
      }

-- Where one asks, x grows to r.
pub asks : (after : List ℕ) (before x r t : ℕ) → before ≤ x → x < r → Passed after before r (t + 1)
asks after before x r t h grown = record { grown = omega arith; unless_grown = λ e. absurd (omega arith) }
