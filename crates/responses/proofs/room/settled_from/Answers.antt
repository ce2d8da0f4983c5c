-- `responses::room::settled_from` meets its contract: as many jobs as the free ticks of their periods make up for the room. Assumes nothing.
use native.Mathlib.Omega.{arith}
use Rattle.least.proofs.Up.{up_holds}
use Prim.Native.Nat.{ℕ, ◌-◌, ◌*◌}
use mathlib.Core.Path.{◌≡◌, ap, ◌∙◌}
use Rattle.responses.proofs.room.settled_from.Goals as goal

pub returns : goal.returns
returns c =
    let enough = up_holds (c.args.room - c.args.worst.response) c.args.free (omega (arith, c.if-free-eq0.false)) in (
      omega (arith, c.min.ensures),
      λ u.
          let first : c.min.result ≡ c.round_up.result = omega (arith, c.min.ensures, u) in
          omega (arith, enough, ap (λ (k : ℕ). k * c.args.free) (first ∙ c.round_up.ensures), c.if-room-worst.false),
    )
