-- Laws of an answer that may be none: it says what the number says that is at most the bound, or any above it. Assumes nothing.
use Prim.Native.Nat.{ℕ, ◌+◌, ◌≤◌, ◌<◌}
use native.Mathlib.Omega.{arith}
use mathlib.Core.List.{List}
use Rattle.std.specs.Prelude.{Some, None}
use Rattle.search.specs.After.{Found, FoundOr, CaughtUp, CaughtUpOr}

module _ {periods costs ends : List ℕ} {n constant bound : ℕ} where
  pub found_some : {r : ℕ} → Found periods costs ends n constant bound r → r ≤ bound → FoundOr periods costs ends n constant bound (Some r)
  found_some f h = record { within = h; at = f.at h; ends_at = f.ends_at h; beyond = tt }

  pub found_none : {r : ℕ} → Found periods costs ends n constant bound r → bound < r → FoundOr periods costs ends n constant bound None
  found_none f h = record { within = tt; at = tt; ends_at = tt; beyond = f.beyond h }

  pub some_found : {r : ℕ} → FoundOr periods costs ends n constant bound (Some r) → Found periods costs ends n constant bound r
  some_found f = record { at = λ _. f.at; ends_at = λ _. f.ends_at; beyond = λ h. absurd (omega (arith, f.within)) }

  pub none_found : FoundOr periods costs ends n constant bound None → Found periods costs ends n constant bound (bound + 1)
  none_found f = record { at = λ h. absurd (omega arith); ends_at = λ h. absurd (omega arith); beyond = λ _. f.beyond }

module _ {ends after : List ℕ} {t x period cost bound : ℕ} where
  pub caught_some : {r : ℕ} → CaughtUp ends t x period cost bound after r → r ≤ bound → CaughtUpOr ends t x period cost bound after (Some r)
  caught_some g h = record { within = h; least = g.least h; too_much = tt; same_length = g.same_length }

  pub caught_none : {r : ℕ} → CaughtUp ends t x period cost bound after r → bound < r → CaughtUpOr ends t x period cost bound after None
  caught_none g h = record { within = tt; least = tt; too_much = g.too_much h; same_length = g.same_length }

  pub some_caught : {r : ℕ} → CaughtUpOr ends t x period cost bound after (Some r) → CaughtUp ends t x period cost bound after r
  some_caught g = record { least = λ _. g.least; too_much = λ h. absurd (omega (arith, g.within)); same_length = g.same_length }

  pub none_caught : CaughtUpOr ends t x period cost bound after None → CaughtUp ends t x period cost bound after (bound + 1)
  none_caught g = record { least = λ h. absurd (omega arith); too_much = λ _. g.too_much; same_length = g.same_length }
