-- The moment at which the supply reaches n ticks is the first: before it the supply is below n, from it on it is not.
-- Assumes nothing.
use Prim.Native.Nat.{ℕ, ◌+◌, ◌-◌, ◌*◌, ◌/◌, ◌%◌, ◌≤◌, ◌<◌}
use mathlib.Core.Path.{◌≡◌, ap, ap₂}
use mathlib.Core.Logic.{◌↔◌, ⊎_elim}
use native.Mathlib.Nat.{div-add-mod', mod-lt}
use native.Mathlib.Omega.{arith}
use Rattle.lists.proofs.Over.{le_or_lt}
use Rattle.supply.specs.Supply.{supply}
use Rattle.supply.specs.Moment.{moment_of}
use Rattle.supply.proofs.Served.{served, served_at_end, supply_is_served}
use Rattle.supply.proofs.SupplyLaws.{supply_mono, supply_within_window}

module _ (P Q E : ℕ) (pos : 1 ≤ Q) (qe : Q ≤ E) (ep : E ≤ P) where
  -- The supply of a window of E − Q ticks, k whole periods and r ticks more.
  supply_in_parts : (k r x : ℕ) → r ≤ P → x ≡ E - Q + (k * P + r) → supply P Q E x ≡ k * Q + (r - (P - Q))
  supply_in_parts k r x h e =
      let past : x - (E - Q) ≡ k * P + r = omega arith in
      omega (
        arith,
        supply_is_served P Q E x qe (omega arith),
        ap (served P Q) past,
        served_at_end P Q (omega arith) (omega arith) k r h,
      )

  module _ (n : ℕ) (some-tick : 1 ≤ n) where
    split : (n - 1) / Q * Q + (n - 1) % Q ≡ n - 1
    split = div-add-mod' (n - 1) Q

    begun : (n - 1) % Q < Q
    begun = mod-lt (n - 1) pos

    supply_at_moment : supply P Q E (moment_of P Q E n) ≡ n
    unfolding moment_of
    supply_at_moment =
        omega (
          arith,
          split,
          supply_in_parts ((n - 1) / Q) (P - Q + ((n - 1) % Q + 1)) (moment_of P Q E n) (omega (arith, begun)) (omega arith),
        )

    supply_before_moment : supply P Q E (moment_of P Q E n - 1) ≡ n - 1
    unfolding moment_of
    supply_before_moment =
        omega (
          arith,
          split,
          supply_in_parts ((n - 1) / Q) (P - Q + (n - 1) % Q) (moment_of P Q E n - 1) (omega (arith, begun)) (omega arith),
        )

    -- A window is sure to hold n ticks exactly when it is as long as the moment.
    pub moment_is_first : (x : ℕ) → (n ≤ supply P Q E x) ↔ (moment_of P Q E n ≤ x)
    moment_is_first x = (reached, enough)
      where
        early : x < moment_of P Q E n → n ≤ supply P Q E x → moment_of P Q E n ≤ x
        early h l =
            absurd
            (omega (arith, supply_mono P Q E pos qe ep {x = x} {y = moment_of P Q E n - 1} (omega arith), supply_before_moment))

        reached : n ≤ supply P Q E x → moment_of P Q E n ≤ x
        reached l = ⊎_elim (λ (h : moment_of P Q E n ≤ x). h) (λ (h : x < moment_of P Q E n). early h l) (le_or_lt (moment_of P Q E n) x)

        enough : moment_of P Q E n ≤ x → n ≤ supply P Q E x
        enough h = omega (arith, supply_mono P Q E pos qe ep h, supply_at_moment)

    -- The moment is no sooner than n ticks.
    pub moment_not_sooner : n ≤ moment_of P Q E n
    moment_not_sooner = omega (arith, supply_within_window P Q E pos qe ep (moment_of P Q E n), supply_at_moment)

-- The formula worked with one quotient, and its product within 64 bits.
pub moment_worked :
    (P Q E n idle lead whole period rest : ℕ) → idle ≡ P - Q → lead ≡ E - Q → whole ≡ (n - 1) / Q → period ≡ P →
    rest ≡ n - 1 - (n - 1) / Q * Q → idle + lead + whole * period + (rest + 1) ≡ moment_of P Q E n
unfolding moment_of
moment_worked P Q E n idle lead whole period rest a b c d e =
    omega (arith, ap₂ ◌*◌ c d, div-add-mod' (n - 1) Q)
