-- Offsets in a file: the part from one on, and how far one task stands behind another. Assumes nothing.
use Prim.Native.Nat.{ℕ, ◌+◌, ◌-◌}
use native.Mathlib.Nat.{add-mul, one-mul}
use native.Mathlib.Omega.{arith}
use mathlib.Core.Path.{◌≡◌}
use mathlib.Core.List.{List}
use lib.ListN.{length, take, drop, length-drop}
use lib.Seq.{take_all}
use Rattle.stored.specs.Field.{field_size, task_length}
use Rattle.stored.specs.Read.{task_place}

-- The part of a file from an offset on.
abbrev pub part_from : List ℕ → ℕ → List ℕ
part_from xs a = take (length xs - a) (drop a xs)

pub part_to_the_end : (xs : List ℕ) (a : ℕ) → part_from xs a ≡ drop a xs
part_to_the_end xs a = take_all (length xs - a) (drop a xs) (omega (arith, length-drop a xs))

pub one_task_further : (m at i : ℕ) → task_place m at i + field_size (task_length m) ≡ task_place m at (i + 1)
unfolding task_place
one_task_further m at i = omega (arith, add-mul i 1 (field_size (task_length m)), one-mul (field_size (task_length m)))
