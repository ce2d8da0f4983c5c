-- Laws of blocking: B(s) looks at every resource of every lower subsystem; resource by resource it is the same. Assumes nothing.
use Prim.Native.Nat.{ℕ, ◌+◌, ◌≤◌, ◌<◌, max}
use native.Mathlib.Omega.{arith}
use mathlib.Core.Path.{◌≡◌, refl, sym, ap, ap₂, ◌∙◌}
use mathlib.Core.Bool.{Bool, true, false, cond}
use mathlib.Core.List.{List}
use lib.Dec.{leb, ltb}
use lib.ListN.{replicate}
use Rattle.lists.specs.Range.{largest_to, behind, padded}
use Rattle.lists.proofs.Over.{largest_to_zero, largest_to_ext, largest_to_suc, largest_at_most, below_largest}
use Rattle.lists.proofs.Put.{all_padding}
use Rattle.lists.proofs.Raised.{largest_where, largest_swap}
use Rattle.table.specs.Limits.{most}
use Rattle.outer.specs.Interfaces.{InterfacesM, held_at, interfaces_in}
use Rattle.outer.specs.Parts.{holding_of, holding}
use Rattle.outer.specs.Blocking.{outer_ceiling, reaching, blocking_by, blocking}
use Rattle.outer.specs.Blocked.{ceiling_in, column_of, wait_in, blocked_in}
use Rattle.outer.proofs.Slots.{count_of, holding_of_slot}
use Rattle.outer.proofs.CeilingLaws.{ceiling_of_slots}

-- What subsystem t adds to the blocking of s with resource l.
abbrev share : InterfacesM → (s t l : ℕ) → ℕ
share g s t l = cond (leb (outer_ceiling g l) s) (cond (ltb s t) (holding_of g t l) 0) 0

both : (a b : Bool) (x : ℕ) → cond a (cond b x 0) 0 ≡ cond b (cond a x 0) 0
both true b x = refl
both false true x = refl
both false false x = refl

-- Of subsystem t, over the resources.
by_subsystem : (g : InterfacesM) (s t : ℕ) → largest_to (share g s t) g.resources ≡ blocking_by g s t
unfolding blocking_by reaching
by_subsystem g s t =
    largest_to_ext (share g s t) (λ l. cond (ltb s t) (cond (leb (outer_ceiling g l) s) (holding_of g t l) 0) 0) g.resources
    (λ l h. both (leb (outer_ceiling g l) s) (ltb s t) (holding_of g t l)) ∙
    sym (largest_where (ltb s t) (λ l. cond (leb (outer_ceiling g l) s) (holding_of g t l) 0) g.resources)

-- Without a resource nothing blocks.
pub blocked_none : (n : ℕ) (lines : List (List ℕ)) → n ≤ most → replicate most 0 ≡ padded (blocked_in lines n 0) 0 most n
blocked_none n lines few = all_padding (blocked_in lines n 0) 0 most n few (λ s h. unfold blocked_in in largest_to_zero (wait_in lines n s))

-- One more resource, whose ceiling is c.
pub blocked_more : (n : ℕ) (lines : List (List ℕ)) (l c : ℕ) → c ≡ ceiling_in lines n l → (s : ℕ) → s < n → blocked_in lines n (l + 1) s ≡ max (blocked_in lines n l s) (cond (leb c s) (behind (column_of lines l) n s) 0)
unfolding blocked_in wait_in
blocked_more n lines l c e s h = largest_to_suc (wait_in lines n s) l ∙ ap (λ (r : ℕ). max (largest_to (wait_in lines n s) l) (cond (leb r s) (behind (column_of lines l) n s) 0)) (sym e)

module _ (n m : ℕ) (lines : List (List ℕ)) where
  -- Of resource l, over the subsystems.
  by_resource : (s l : ℕ) → l < m → wait_in lines n s l ≡ largest_to (λ t. share (interfaces_in n m lines) s t l) n
  unfolding wait_in behind
  by_resource s l h =
      let g = interfaces_in n m lines in
      ap₂ (λ (c x : ℕ). cond (leb c s) x 0) (ceiling_of_slots n m lines l h)
      (largest_to_ext (λ t. cond (ltb s t) (held_at lines t l) 0) (λ t. cond (ltb s t) (holding_of g t l) 0) n
      (λ t k. ap (λ (x : ℕ). cond (ltb s t) x 0) (sym (holding_of_slot n m lines t l k h)))) ∙
      largest_where (leb (outer_ceiling g l) s) (λ t. cond (ltb s t) (holding_of g t l) 0) n

  -- B(s), resource by resource.
  pub blocked_is : (s : ℕ) → blocked_in lines n m s ≡ blocking (interfaces_in n m lines) s
  unfolding blocked_in blocking interfaces_in
  blocked_is s =
      let g = interfaces_in n m lines in
      largest_to_ext (wait_in lines n s) (λ l. largest_to (λ t. share g s t l) n) m (by_resource s) ∙
      largest_swap (share g s) m n ∙
      largest_to_ext (λ t. largest_to (share g s t) m) (blocking_by g s) n (λ t h. by_subsystem g s t) ∙
      ap (largest_to (blocking_by g s)) (sym (count_of n m lines))

at_most : (b : Bool) (x y : ℕ) → x ≤ y → cond b x 0 ≤ y
at_most true x y h = h
at_most false x y h = omega arith

-- What subsystem t blocks is at most X(t).
pub blocking_by_at_most : (g : InterfacesM) (s t : ℕ) → blocking_by g s t ≤ holding g t
unfolding blocking_by reaching holding
blocking_by_at_most g s t =
    at_most (ltb s t) _ _
    (largest_at_most (reaching g s t) g.resources (largest_to (holding_of g t) g.resources)
    (λ l h. at_most (leb (outer_ceiling g l) s) _ _ (below_largest (holding_of g t) g.resources l h)))
