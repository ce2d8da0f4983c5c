-- `least::standing` divides in 64 bits, where the ticks times the unit fit, and cuts off at the reach. Assumes nothing.
use Prim.Native.Nat.{ℕ, ◌*◌, ◌/◌, ◌≤◌, ◌<◌}
use mathlib.Core.Path.{◌≡◌, ap}
use mathlib.Core.Logic.{⊎_elim}
use Rattle.lists.proofs.Over.{le_or_lt}
use Rattle.least.specs.Share.{unit}
use Rattle.least.specs.Search.{reach}
use Rattle.least.proofs.ShareLaws.{standing_beyond, standing_there}
use native.Mathlib.Omega.{arith}
use Rattle.least.proofs.standing.Goals as goal

pub returns : goal.returns
returns c =
    let reached : ℕ = c.from.result * unit / c.args.spare in
    let reached_is : reached ≡ c.args.constant * unit / c.args.spare = ap (λ (k : ℕ). k * unit / c.args.spare) c.from.ensures in
    ⊎_elim (λ (h : reached ≤ reach). omega (arith, c.min.ensures, standing_there _ _ _ reached_is h))
    (λ (h : reach < reached). omega (arith, c.min.ensures, standing_beyond _ _ _ reached_is h))
    (le_or_lt reached reach)
