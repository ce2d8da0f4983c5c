use Prim.Native.Nat.{◌<◌}
use mathlib.Core.Path.{◌≡◌}
use lib.ListN.{length}
use Rattle.search.proofs.AdvanceLaws.{advances_from, asks_on, stays, asked_fits, all_advanced}
use native.Mathlib.Omega.{arith}
use Rattle.search.proofs.advanced.Goals.{else-ends-t, then-ends-t}
use Rattle.search.proofs.advanced.Goals as goal

pub loop-t-init : goal.loop-t-init
loop-t-init c =
    advances_from _ _ _ _ _

pub overflow_mul-ends : goal.overflow_mul-ends
overflow_mul-ends c =
    let room : c.loop-t.t < length c.loop-t.ends = omega (arith, c.loop-t-test.true, c.requires.fit.2, c.loop-t.invariant.same_length) in
    let fit = asked_fits _ _ _ _ _ _ c.requires.fit.0 c.requires.fit.1 c.requires.x_lt_reach.0 c.requires.x_lt_reach.1 c.loop-t-test.true c.loop-t.invariant room c.if-ends-t.true c.round_up-times.ensures in
    record { fits = omega (arith, fit.0) }

pub overflow_add-ends : goal.overflow_add-ends
overflow_add-ends c =
    let room : c.loop-t.t < length c.loop-t.ends = omega (arith, c.loop-t-test.true, c.requires.fit.2, c.loop-t.invariant.same_length) in
    let fit = asked_fits _ _ _ _ _ _ c.requires.fit.0 c.requires.fit.1 c.requires.x_lt_reach.0 c.requires.x_lt_reach.1 c.loop-t-test.true c.loop-t.invariant room c.if-ends-t.true c.round_up-times.ensures in
    record { fits = omega (arith, fit.0) }

pub overflow_mul-sum : goal.overflow_mul-sum
overflow_mul-sum c =
    let room : c.loop-t.t < length c.loop-t.ends = omega (arith, c.loop-t-test.true, c.requires.fit.2, c.loop-t.invariant.same_length) in
    let fit = asked_fits _ _ _ _ _ _ c.requires.fit.0 c.requires.fit.1 c.requires.x_lt_reach.0 c.requires.x_lt_reach.1 c.loop-t-test.true c.loop-t.invariant room c.if-ends-t.true c.round_up-times.ensures in
    record { fits = omega (arith, fit.1) }

pub overflow_add-sum : goal.overflow_add-sum
overflow_add-sum c =
    let room : c.loop-t.t < length c.loop-t.ends = omega (arith, c.loop-t-test.true, c.requires.fit.2, c.loop-t.invariant.same_length) in
    let fit = asked_fits _ _ _ _ _ _ c.requires.fit.0 c.requires.fit.1 c.requires.x_lt_reach.0 c.requires.x_lt_reach.1 c.loop-t-test.true c.loop-t.invariant room c.if-ends-t.true c.round_up-times.ensures in
    record { fits = omega (arith, fit.1) }

pub loop-t-preserved : goal.loop-t-preserved
loop-t-preserved c =
    let room : c.loop-t.t < length c.loop-t.ends = omega (arith, c.loop-t-test.true, c.requires.fit.2, c.loop-t.invariant.same_length) in
    (elim c.if-ends-t.branch [
      | then-ends-t w ↦ rw (w.ends-is, w.sum-is) (asks_on _ _ _ _ _ _ _ _ c.loop-t.invariant _ w.round_up-times.ensures room)
      | else-ends-t w ↦ rw (w.ends-is, w.sum-is) (stays _ _ _ _ _ _ _ _ c.loop-t.invariant (c.requires.fit.0.loads.period_pos _ c.loop-t-test.true) w.if-ends-t.false)
    ])

pub returns : goal.returns
returns c =
    let all : c.loop-t.t ≡ c.args.n = omega arith in
    all_advanced _ _ _ _ _ _ c.requires.fit.0 _ _ (rw (← all) c.loop-t.invariant)
