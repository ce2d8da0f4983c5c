-- Outer ceilings and blocking as the code sees them, from lines of numbers. Assumes nothing.
use Rattle.std.specs.Prelude.{ℕ, ◌-◌, Bool, cond, List, leb, ltb}
use Rattle.lists.specs.Range.{largest_to, behind, first_such}
use Rattle.outer.specs.Interfaces.{held_at}
use Rattle.outer.specs.Blocking.{number_or}

-- Whether line s has a holding time for resource l.
unfoldable pub accesses_in : List (List ℕ) → ℕ → ℕ → Bool
accesses_in lines l s = ltb 0 (held_at lines s l)

-- The first of n lines that has one, or the last of them where none does.
unfoldable pub ceiling_in : List (List ℕ) → ℕ → ℕ → ℕ
ceiling_in lines n l = number_or (n - 1) (first_such (accesses_in lines l) n 0)

-- How long each line holds resource l.
abbrev pub column_of : List (List ℕ) → ℕ → ℕ → ℕ
column_of lines l s = held_at lines s l

-- The longest that a line behind s holds resource l, where its ceiling is at or before s, else 0.
unfoldable pub wait_in : List (List ℕ) → ℕ → ℕ → ℕ → ℕ
wait_in lines n s l = cond (leb (ceiling_in lines n l) s) (behind (column_of lines l) n s) 0

-- The longest of these over the first m resources. (B(s) is the same by lower subsystems: proofs/BlockingLaws.antt.)
unfoldable pub blocked_in : List (List ℕ) → ℕ → ℕ → ℕ → ℕ
blocked_in lines n m s = largest_to (wait_in lines n s) m
