use Prim.Native.Nat.{ℕ}
use native.Mathlib.Omega.{arith}
use mathlib.Core.Path.{sym, ap, ◌∙◌, ◌≡◌}
use Rattle.least.proofs.Demand.{demand_zero, demand_suc, demand_below, loads_fewer}
use Rattle.least.specs.Demand.{demand}
use Rattle.least.proofs.LoadList.demand_in.Goals as goal

pub loop-t-init : goal.loop-t-init
loop-t-init c =
    sym (demand_zero _ _ _)

pub overflow_add-sum : goal.overflow_add-sum
overflow_add-sum c =
    omega (arith, demand_below _ _ c.loop-t.t c.args.x (loads_fewer c.loop-t.t c.requires.loads (omega arith)) c.requires.le_x.1, c.requires.loads.few)

pub loop-t-preserved : goal.loop-t-preserved
loop-t-preserved c =
    omega (arith, demand_suc c.args.self.now.periods.now c.args.self.now.costs.now c.loop-t.t c.args.x, c.load_in-sum.ensures.0, c.loop-t.invariant)

pub returns : goal.returns
returns c =
    let e : c.loop-t.t ≡ c.args.n = omega arith in (
      c.loop-t.invariant ∙ ap (λ (k : ℕ). demand c.args.self.now.periods.now c.args.self.now.costs.now k c.args.x) e,
      omega (arith, demand_below _ _ c.loop-t.t c.args.x (loads_fewer c.loop-t.t c.requires.loads (omega arith)) c.requires.le_x.1, c.requires.loads.few),
    )
