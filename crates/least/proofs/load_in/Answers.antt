-- `least::load_in` meets its contract: the product is that of the two numbers, and fits. Assumes nothing.
use Prim.Native.Nat.{◌*◌}
use native.Mathlib.Omega.{arith}
use mathlib.Core.Path.{◌≡◌, ap₂, ◌∙◌}
use Rattle.least.specs.Up.{up}
use Rattle.least.proofs.Demand.{load_below}
use Rattle.least.proofs.load_in.Goals as goal

pub returns : goal.returns
returns c =
    let same : c.from.result * c.from-2.result ≡ up c.args.x c.args.period * c.args.cost = ap₂ ◌*◌ (c.from.ensures ∙ c.round_up.ensures) c.from-2.ensures in
    (same, omega (arith, same, load_below c.args.x c.args.period c.args.cost c.requires.0 c.requires.1 c.requires.3))
