use Prim.Native.Nat.{ℕ, ◌*◌, ◌<◌, ◌^◌}
use mathlib.Core.Path.{◌≡◌, refl, ap, ◌∙◌}
use lib.ListN.{get_or, length-set}
use Rattle.lists.proofs.Filled.{filled_none, filled_more, filled_at}
use Rattle.least.specs.Up.{up}
use Rattle.least.proofs.Up.{up_is_tight}
use native.Mathlib.Omega.{arith}
use Rattle.search.proofs.ends_at.Goals as goal

pub loop-t-init : goal.loop-t-init
loop-t-init c =
    (refl, filled_none 0 _ 0 _)

pub overflow_mul-ends : goal.overflow_mul-ends
overflow_mul-ends c =
    let end_is : c.round_up.result * get_or c.args.periods.now (c.loop-t.t) 0 ≡ up c.args.y (get_or c.args.periods.now (c.loop-t.t) 0) * get_or c.args.periods.now (c.loop-t.t) 0 = ap (λ (q : ℕ). q * get_or c.args.periods.now (c.loop-t.t) 0) c.round_up.ensures in
    let end_small : up c.args.y (get_or c.args.periods.now (c.loop-t.t) 0) * get_or c.args.periods.now (c.loop-t.t) 0 < 2 ^ 26 = omega (arith, up_is_tight c.args.y (get_or c.args.periods.now (c.loop-t.t) 0) (c.requires.periods.0.period_pos (c.loop-t.t) c.loop-t-test.true), c.requires.periods.0.period_small (c.loop-t.t) c.loop-t-test.true, c.requires.le_y.1) in
    record { fits = omega (arith, end_is, end_small) }

pub loop-t-preserved : goal.loop-t-preserved
loop-t-preserved c =
    let end_is : c.round_up.result * get_or c.args.periods.now (c.loop-t.t) 0 ≡ up c.args.y (get_or c.args.periods.now (c.loop-t.t) 0) * get_or c.args.periods.now (c.loop-t.t) 0 = ap (λ (q : ℕ). q * get_or c.args.periods.now (c.loop-t.t) 0) c.round_up.ensures in
    (length-set c.loop-t.ends c.loop-t.t _ ∙ c.loop-t.invariant.0, filled_more 0 _ 0 c.loop-t.ends c.loop-t.t c.loop-t.t _ (omega arith) (omega (arith, c.loop-t-test.true, c.requires.periods.2, c.loop-t.invariant.0)) c.loop-t.invariant.1 end_is)

pub returns : goal.returns
returns c =
    (λ t u. filled_at 0 _ 0 c.loop-t.ends c.loop-t.t t t (omega arith) c.loop-t.invariant.1 (omega arith), c.loop-t.invariant.0)
