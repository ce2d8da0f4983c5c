-- The supply is what every way of handing out gives in every window, and some window gives no more. Assumes nothing.
use Prim.Native.Nat.{ℕ, ◌≤◌}
use mathlib.Core.Path.{◌≡◌}
use mathlib.Core.Logic.{◌↔◌}
use native.Mathlib.Nat.{le_trans}
use native.Mathlib.Omega.{arith}
use Rattle.supply.specs.Supply.{supply}
use Rattle.supply.specs.Ways.{Way, given_in, IsWay, AlwaysGiven}
use Rattle.supply.proofs.EveryWindow.{every_window_holds_the_supply}
use Rattle.supply.proofs.WorstWay.{worst_way, worst_is_way, worst_window}

module _ (P Q E : ℕ) (pos : 1 ≤ Q) (qe : Q ≤ E) (ep : E ≤ P) (x : ℕ) where
  -- Some way and some window of x ticks hold exactly the supply.
  pub supply_is_reached : (w : Way) × IsWay P Q E w × (a : ℕ) × (given_in w a x ≡ supply P Q E x)
  supply_is_reached = (worst_way P Q E, worst_is_way P Q E pos qe ep, Q, worst_window P Q E pos qe ep x)

  -- So no more than the supply is given always,
  pub always_given_at_most : (n : ℕ) → AlwaysGiven P Q E x n → n ≤ supply P Q E x
  unfolding AlwaysGiven
  always_given_at_most n h = omega (arith, h (worst_way P Q E) (worst_is_way P Q E pos qe ep) Q, worst_window P Q E pos qe ep x)

  -- and the supply is: every way and every window of x ticks holds at least that.
  pub supply_always_given : AlwaysGiven P Q E x (supply P Q E x)
  unfolding AlwaysGiven
  supply_always_given w isWay a = every_window_holds_the_supply P Q E pos qe ep w isWay a x

  always_given_less : (m n : ℕ) → n ≤ m → AlwaysGiven P Q E x m → AlwaysGiven P Q E x n
  unfolding AlwaysGiven
  always_given_less m n l h w isWay a = le_trans l (h w isWay a)

  -- Every way and every window of x ticks holds at least n exactly when n is at most the supply.
  pub always_given_is_supply : (n : ℕ) → AlwaysGiven P Q E x n ↔ (n ≤ supply P Q E x)
  always_given_is_supply n = (always_given_at_most n, λ l. always_given_less (supply P Q E x) n l supply_always_given)
