-- The parts of interfaces that lines of numbers hold are the slots of the lines, as far as the counts go. Assumes nothing.
use Prim.Native.Nat.{ℕ, ◌+◌, ◌^◌, ◌<◌, ◌≤◌}
use native.Mathlib.Nat.{le_trans}
use native.Mathlib.Omega.{arith}
use mathlib.Core.Path.{◌≡◌, refl, ap, ap₂, ◌∙◌}
use mathlib.Core.List.{List, []}
use lib.ListN.{get_or}
use Rattle.lists.specs.Range.{largest_to, up_to}
use Rattle.lists.proofs.Over.{largest_to_ext}
use Rattle.lists.proofs.UpTo.{length_up_to, get_d_up_to, up_to_ext}
use Rattle.table.specs.Limits.{most, largest}
use Rattle.outer.specs.Sound.{Sound}
use Rattle.outer.specs.Interfaces.{InterfaceM, period_at, budget_at, held_at, interface_at, interfaces_in}
use Rattle.outer.specs.Parts.{no_interface, count, interface_of, period_of, budget_of, holding_of, holding, cost_of}

module _ (n m : ℕ) (lines : List (List ℕ)) where
  pub count_of : count (interfaces_in n m lines) ≡ n
  unfolding count interfaces_in
  count_of = length_up_to (interface_at m lines) n

  pub resources_of : (interfaces_in n m lines).resources ≡ m
  unfolding interfaces_in
  resources_of = refl

  -- What the rules leave, by the counts themselves.
  pub few_of : Sound (interfaces_in n m lines) → n ≤ most
  few_of s = rw count_of at s.few_subsystems

  pub some_of : Sound (interfaces_in n m lines) → 1 ≤ n
  some_of s = rw count_of at s.some_subsystem

  pub few_resources_of : Sound (interfaces_in n m lines) → m ≤ most
  unfolding interfaces_in
  few_resources_of s = s.few_resources

  pub interface_of_slot : (s : ℕ) → s < n → interface_of (interfaces_in n m lines) s ≡ interface_at m lines s
  unfolding interface_of interfaces_in
  interface_of_slot s h = get_d_up_to (interface_at m lines) n s no_interface h

  pub period_of_slot : (s : ℕ) → s < n → period_of (interfaces_in n m lines) s ≡ period_at lines s
  unfolding period_of interface_at
  period_of_slot s h = ap (λ (i : InterfaceM). i.period) (interface_of_slot s h)

  pub budget_of_slot : (s : ℕ) → s < n → budget_of (interfaces_in n m lines) s ≡ budget_at lines s
  unfolding budget_of interface_at
  budget_of_slot s h = ap (λ (i : InterfaceM). i.budget) (interface_of_slot s h)

  pub holding_of_slot : (s l : ℕ) → s < n → l < m → holding_of (interfaces_in n m lines) s l ≡ held_at lines s l
  unfolding holding_of interface_at
  holding_of_slot s l h k =
      ap (λ (i : InterfaceM). get_or i.holdings l 0) (interface_of_slot s h) ∙
      get_d_up_to (held_at lines s) m l 0 k

  -- X(s) by the slot.
  pub largest_of_slot : (s : ℕ) → s < n → holding (interfaces_in n m lines) s ≡ largest_to (held_at lines s) m
  unfolding holding interfaces_in
  largest_of_slot s h =
      largest_to_ext (holding_of (interfaces_in n m lines) s) (held_at lines s) m (λ l k. holding_of_slot s l h k)

  -- Q(s) + X(s) by the slot.
  pub cost_of_slot : (s : ℕ) → s < n → cost_of (interfaces_in n m lines) s ≡ budget_at lines s + largest_to (held_at lines s) m
  unfolding cost_of
  cost_of_slot s h = ap₂ ◌+◌ (budget_of_slot s h) (largest_of_slot s h)

  pub cost_small_of : Sound (interfaces_in n m lines) → (s : ℕ) → s < n → cost_of (interfaces_in n m lines) s ≤ largest
  unfolding cost_of
  cost_small_of d s h =
      let k : s < count (interfaces_in n m lines) = rw count_of h in
      le_trans (d.fits s k) (d.period_small s k)

-- Budget and largest holding time of a slot may be asked for, and their sum fits.
pub cost_asked : (n m : ℕ) (lines : List (List ℕ)) → Sound (interfaces_in n m lines) → (s : ℕ) → s < n → (s < most) × (m ≤ most) × (budget_at lines s + largest_to (held_at lines s) m < 2 ^ 32)
cost_asked n m lines d s h = (
  omega (arith, h, few_of n m lines d),
  few_resources_of n m lines d,
  omega (arith, cost_of_slot n m lines s h, cost_small_of n m lines d s h),
)

-- Interfaces from what is written on their lines, for whoever writes them. One line, from its numbers.
pub interface_is : (m : ℕ) (lines : List (List ℕ)) (s : ℕ) {p q : ℕ} (f : ℕ → ℕ) → period_at lines s ≡ p → budget_at lines s ≡ q → ((l : ℕ) → l < m → held_at lines s l ≡ f l) → interface_at m lines s ≡ record { period = p; budget = q; holdings = up_to f m }
unfolding interface_at
interface_is m lines s f ep eq eh =
    let e = up_to_ext (held_at lines s) f m eh in
    λ i. record { period = ep i; budget = eq i; holdings = e i }

-- An interface depends on its line alone.
pub same_line : (m : ℕ) (lines lines2 : List (List ℕ)) (r r2 : ℕ) → get_or lines r [] ≡ get_or lines2 r2 [] → interface_at m lines r ≡ interface_at m lines2 r2
unfolding interface_at period_at budget_at held_at
same_line m lines lines2 r r2 e =
    ap (λ (x : List ℕ). record { period = get_or x 0 0; budget = get_or x 1 0; holdings = up_to (λ l. get_or x (l + 2) 0) m }) e

-- All lines.
pub interfaces_are : (n m : ℕ) (lines : List (List ℕ)) (f : ℕ → InterfaceM) → ((s : ℕ) → s < n → interface_at m lines s ≡ f s) → interfaces_in n m lines ≡ record { resources = m; interfaces = up_to f n }
unfolding interfaces_in
interfaces_are n m lines f e =
    ap (λ (is : List InterfaceM). record { resources = m; interfaces = is }) (up_to_ext (interface_at m lines) f n e)
