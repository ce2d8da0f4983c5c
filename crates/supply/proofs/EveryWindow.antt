-- Every way of handing out gives every window at least the supply. Assumes nothing.
use Prim.Native.Nat.{ℕ, zero, suc, ◌+◌, ◌-◌, ◌*◌, ◌/◌, ◌%◌, ◌≤◌, ◌<◌}
use mathlib.Core.Path.{◌≡◌, refl, ap, ap₂}
use mathlib.Core.Logic.{⊎_elim}
use native.Mathlib.Nat.{div-add-mod', mod-lt, suc-mul, add-mul, lt_of_mul-lt-mul_right}
use native.Mathlib.Omega.{arith}
use Rattle.lists.proofs.Over.{le_or_lt}
use Rattle.supply.specs.Supply.{supply}
use Rattle.supply.specs.Ways.{Way, given_in, IsWay}
use Rattle.supply.proofs.Served.{served, served_parts, served_zero, supply_is_served}
use Rattle.supply.proofs.GivenLaws.{given_from_start, given_in_periods, given_before, given_at_most}

-- A window of s + y P + r₂ ticks, s = E − Q, begins at tick r of a period and ends before tick r' of the period that lies
-- y + e further on. Before r that first period gave g, before r' the last one gave g'. Then the window holds y Q and more.
module _ (P Q E : ℕ) (qe : Q ≤ E) (ep : E ≤ P) (x r r' r₂ g g' whole : ℕ) (rp : r < P) (r'p : r' < P) (r₂p : r₂ < P)
    (size : E - Q + (whole + r₂) ≡ x) (gr : g ≤ r) (gq : g ≤ Q) (due : Q ≤ g' + (E - r')) where
  begun_and_ended : (e : ℕ) → r + x ≡ whole + e * P + r' → r₂ - (P - Q) + g ≤ e * Q + g'
  begun_and_ended zero end = omega arith
  begun_and_ended (suc zero) end = omega arith
  begun_and_ended (suc (suc zero)) end = omega arith
  begun_and_ended (suc (suc (suc e))) end =
      absurd (omega (arith, suc-mul (suc (suc e)) P, suc-mul (suc e) P, suc-mul e P))

module _ (P Q E : ℕ) (pos : 1 ≤ Q) (qe : Q ≤ E) (ep : E ≤ P) (w : Way) (isWay : IsWay P Q E w) where
  positive : 0 < P
  positive = omega arith

  -- The window from m P + r on, of E − Q + y P + r₂ ticks, up to n P + r'.
  between : (m r n r' y r₂ : ℕ) → r < P → r' < P → r₂ < P → m * P + r + (E - Q + (y * P + r₂)) ≡ n * P + r'
      → y * Q + (r₂ - (P - Q)) ≤ given_in w (m * P + r) (E - Q + (y * P + r₂))
  between m r n r' y r₂ rp r'p r₂p ends =
      let ahead : m + y < suc n = lt_of_mul-lt-mul_right P (omega (arith, add-mul m y P, suc-mul n P)) in
      let e : ℕ = n - (m + y) in
      let parts : n ≡ m + y + e = omega arith in
      let parts-P : n * P ≡ m * P + y * P + e * P = omega (arith, ap (λ (k : ℕ). k * P) parts, add-mul (m + y) e P, add-mul m y P) in
      let parts-Q : n * Q ≡ m * Q + y * Q + e * Q = omega (arith, ap (λ (k : ℕ). k * Q) parts, add-mul (m + y) e Q, add-mul m y Q) in
      omega (
        arith,
        begun_and_ended P Q E qe ep (E - Q + (y * P + r₂)) r r' r₂ (given_in w (m * P) r) (given_in w (n * P) r') (y * P)
            rp r'p r₂p refl (given_at_most w (m * P) r) (given_before P Q E ep w isWay m r (omega arith)).0
            (given_before P Q E ep w isWay n r' (omega arith)).1 e (omega arith),
        given_from_start w (m * P + r) (E - Q + (y * P + r₂)),
        ap (given_in w 0) ends,
        given_from_start w (m * P) r,
        given_from_start w (n * P) r',
        given_in_periods P Q E ep w isWay m,
        given_in_periods P Q E ep w isWay n,
      )

  -- Demand 3, one half: no window of x ticks, under no way, holds less than the supply.
  pub every_window_holds_the_supply : (a x : ℕ) → supply P Q E x ≤ given_in w a x
  every_window_holds_the_supply a x = ⊎_elim long short (le_or_lt (E - Q) x)
    where
      short : x < E - Q → supply P Q E x ≤ given_in w a x
      short h =
          let none : x - (E - Q) ≡ 0 = omega arith in
          omega (arith, supply_is_served P Q E x qe (omega arith), ap (served P Q) none, served_zero P Q)

      long : E - Q ≤ x → supply P Q E x ≤ given_in w a x
      long h =
          let z : ℕ = x - (E - Q) in
          let begins : a / P * P + a % P ≡ a = div-add-mod' a P in
          let lasts : E - Q + (z / P * P + z % P) ≡ x = omega (arith, div-add-mod' z P) in
          let ends : a / P * P + a % P + (E - Q + (z / P * P + z % P)) ≡ (a + x) / P * P + (a + x) % P =
          omega (arith, div-add-mod' (a + x) P) in
          omega (
            arith,
            supply_is_served P Q E x qe (omega arith),
            served_parts P Q z,
            between (a / P) (a % P) ((a + x) / P) ((a + x) % P) (z / P) (z % P) (mod-lt a positive) (mod-lt (a + x) positive)
                (mod-lt z positive) ends,
            ap₂ (given_in w) begins lasts,
          )
