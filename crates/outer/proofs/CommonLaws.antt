-- What the rows share, from its five parts; and the used part of an array that is filled up with 0. Assumes nothing.
use Prim.Native.Nat.{ℕ, ◌-◌, ◌≤◌, ◌<◌}
use native.Mathlib.Omega.{arith}
use mathlib.Core.Path.{◌≡◌, sym, ap, ap₂, ◌∙◌}
use mathlib.Core.List.{List}
use lib.ListN.{length, get_or, take}
use lib.Seq.{take_at}
use Rattle.lists.specs.Range.{up_to, padded}
use Rattle.lists.proofs.UpTo.{length_up_to, length_padded, padded_ext, get_d_padded}
use Rattle.table.specs.Limits.{most}
use Rattle.outer.specs.declared.ceilings.Common.{Common}
use Rattle.outer.specs.Interfaces.{period_at, interfaces_in}
use Rattle.outer.specs.Parts.{count, period_of, cost_of, free_of}
use Rattle.outer.specs.Blocking.{outer_ceiling, blocking}
use Rattle.outer.specs.Blocked.{ceiling_in, blocked_in}
use Rattle.outer.specs.Common.{common_of}
use Rattle.outer.specs.Sound.{Sound}
use Rattle.outer.proofs.Slots.{few_of, count_of, period_of_slot}
use Rattle.outer.proofs.CeilingLaws.{ceiling_of_slots}
use Rattle.outer.proofs.BlockingLaws.{blocked_is}

-- What stands in a slot of the used part.
at_slot : (f : ℕ → ℕ) (n : ℕ) {xs : List ℕ} → xs ≡ padded f 0 most n → (t : ℕ) → t < n → get_or xs t 0 ≡ f t
at_slot f n q t u = ap (λ (ys : List ℕ). get_or ys t 0) q ∙ get_d_padded f 0 0 most n t u

pub common_is : (n m : ℕ) (lines : List (List ℕ)) (p c f r b : List ℕ) → p ≡ padded (period_at lines) 0 most n → c ≡ padded (cost_of (interfaces_in n m lines)) 0 most n → f ≡ padded (λ t. get_or p t 0 - get_or c t 0) 0 most n → r ≡ padded (ceiling_in lines n) 0 most m → b ≡ padded (blocked_in lines n m) 0 most n → ◌≡◌ {A = Common} (record { periods = p; costs = c; frees = f; ceilings = r; blockings = b }) (common_of (interfaces_in n m lines))
unfolding common_of interfaces_in free_of
common_is n m lines p c d r b e f g h k =
    let same = sym (count_of n m lines) in
    let e2 : p ≡ padded (period_of (interfaces_in n m lines)) 0 most (count (interfaces_in n m lines)) =
    e ∙ padded_ext _ _ 0 most n (λ s u. sym (period_of_slot n m lines s u)) ∙ ap (padded (period_of (interfaces_in n m lines)) 0 most) same in
    let f2 : c ≡ padded (cost_of (interfaces_in n m lines)) 0 most (count (interfaces_in n m lines)) =
    f ∙ ap (padded (cost_of (interfaces_in n m lines)) 0 most) same in
    let free-at : (s : ℕ) → s < n → get_or p s 0 - get_or c s 0 ≡ free_of (interfaces_in n m lines) s =
    λ s u. ap₂ ◌-◌ (at_slot (period_at lines) n e s u ∙ sym (period_of_slot n m lines s u)) (at_slot (cost_of (interfaces_in n m lines)) n f s u) in
    let g2 : d ≡ padded (free_of (interfaces_in n m lines)) 0 most (count (interfaces_in n m lines)) =
    g ∙ padded_ext _ _ 0 most n free-at ∙ ap (padded (free_of (interfaces_in n m lines)) 0 most) same in
    let h2 : r ≡ padded (outer_ceiling (interfaces_in n m lines)) 0 most m =
    h ∙ padded_ext _ _ 0 most m (ceiling_of_slots n m lines) in
    let k2 : b ≡ padded (blocking (interfaces_in n m lines)) 0 most (count (interfaces_in n m lines)) =
    k ∙ padded_ext _ _ 0 most n (λ s u. blocked_is n m lines s) ∙ ap (padded (blocking (interfaces_in n m lines)) 0 most) same in
    λ i. record { periods = e2 i; costs = f2 i; frees = g2 i; ceilings = h2 i; blockings = k2 i }

-- What is subtracted for the free ticks is there.
pub frees_fit :
    (n m : ℕ) (lines : List (List ℕ)) (p c : List ℕ) → Sound (interfaces_in n m lines) → p ≡ padded (period_at lines) 0 most n → c ≡ padded (cost_of (interfaces_in n m lines)) 0 most n →
    ((n ≤ most) × (n ≤ length p) × (n ≤ length c)) × ((t : ℕ) → t < n → get_or c t 0 ≤ get_or p t 0)
frees_fit n m lines p c sound e f =
    let few = few_of n m lines sound in (
      (few, omega (arith, ap length e, length_padded (period_at lines) 0 most n few), omega (arith, ap length f, length_padded (cost_of (interfaces_in n m lines)) 0 most n few)),
      λ t u. omega (arith, at_slot (period_at lines) n e t u ∙ sym (period_of_slot n m lines t u), at_slot (cost_of (interfaces_in n m lines)) n f t u, fits t u),
    )
  where
    fits : (t : ℕ) → t < n → cost_of (interfaces_in n m lines) t ≤ period_of (interfaces_in n m lines) t
    fits t u = unfold cost_of in sound.fits t (rw (count_of n m lines) u)

-- The used part.
pub take_padded : (f : ℕ → ℕ) (n : ℕ) → take n (padded f 0 most n) ≡ up_to f n
unfolding padded
take_padded f n = take_at (up_to f n) _ n (length_up_to f n)
