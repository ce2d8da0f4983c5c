-- The used parts of arrays that are filled up with 0, and the parts of what the rows share. Assumes nothing.
use Prim.Native.Nat.{ℕ, ◌≤◌}
use native.Mathlib.Omega.{arith}
use mathlib.Core.Path.{◌≡◌, sym, ap, ◌∙◌}
use mathlib.Core.List.{List}
use lib.ListN.{length, take}
use lib.Seq.{length-take-le}
use Rattle.lists.specs.Range.{up_to, padded}
use Rattle.lists.proofs.UpTo.{length_padded}
use Rattle.table.specs.Limits.{most}
use Rattle.outer.specs.declared.ceilings.Common.{Common}
use Rattle.outer.specs.Interfaces.{interfaces_in}
use Rattle.outer.specs.Parts.{period_of, cost_of, free_of}
use Rattle.outer.specs.Blocking.{outer_ceiling, blocking}
use Rattle.outer.specs.Common.{common_of}
use Rattle.outer.proofs.Slots.{count_of}
use Rattle.outer.proofs.CommonLaws.{take_padded}

-- The used part of an array that is filled up with 0.
module _ (f : ℕ → ℕ) (n : ℕ) (few : n ≤ most) {a : List ℕ} (e : a ≡ padded f 0 most n) where
  pub long_enough : n ≤ length a
  long_enough = omega (arith, ap length e, length_padded f 0 most n few)

  pub used_part : take n a ≡ up_to f n
  used_part = ap (take n) e ∙ take_padded f n

-- A part of an array has the length that it is cut to.
pub used_length : (n : ℕ) (a : List ℕ) → n ≤ length a → n ≡ length (take n a)
used_length n a h = sym (length-take-le n a h)

-- The parts of what the rows share.
module _ (n m : ℕ) (lines : List (List ℕ)) (c : Common) (e : c ≡ common_of (interfaces_in n m lines)) where
  pub shared_periods : c.periods ≡ padded (period_of (interfaces_in n m lines)) 0 most n
  unfolding common_of
  shared_periods = ap (λ (x : Common). x.periods) e ∙ ap (padded (period_of (interfaces_in n m lines)) 0 most) (count_of n m lines)

  pub shared_costs : c.costs ≡ padded (cost_of (interfaces_in n m lines)) 0 most n
  unfolding common_of
  shared_costs = ap (λ (x : Common). x.costs) e ∙ ap (padded (cost_of (interfaces_in n m lines)) 0 most) (count_of n m lines)

  pub shared_frees : c.frees ≡ padded (free_of (interfaces_in n m lines)) 0 most n
  unfolding common_of
  shared_frees = ap (λ (x : Common). x.frees) e ∙ ap (padded (free_of (interfaces_in n m lines)) 0 most) (count_of n m lines)

  pub shared_ceilings : c.ceilings ≡ padded (outer_ceiling (interfaces_in n m lines)) 0 most m
  unfolding common_of interfaces_in
  shared_ceilings = ap (λ (x : Common). x.ceilings) e

  pub shared_blockings : c.blockings ≡ padded (blocking (interfaces_in n m lines)) 0 most n
  unfolding common_of
  shared_blockings = ap (λ (x : Common). x.blockings) e ∙ ap (padded (blocking (interfaces_in n m lines)) 0 most) (count_of n m lines)
