use Prim.Native.Nat.{ℕ, ◌+◌, ◌^◌, ◌≤◌, ◌<◌}
use mathlib.Core.Path.{◌≡◌, refl, ◌∙◌}
use mathlib.Core.List.{List}
use lib.ListN.{length}
use Rattle.search.specs.After.{afterwards}
use Rattle.search.proofs.ClimbLaws.{Climbing, climbs_from, climbs_start, total_starts, falls_behind, no_solution, climb_small, climbs_on, grows, too_far, settled}
use Rattle.search.proofs.AnswerLaws.{found_some, found_none, some_caught, none_caught}
use Rattle.search.proofs.PassLaws.{Passed, passes, asks}
use native.Mathlib.Omega.{arith}
use Rattle.search.proofs.Asking.climb.Goals.{else-ends-t, else-x-start, then-ends-t+in_ok-x, then-x-start}
use Rattle.search.proofs.Asking.climb.Goals as goal

-- What holds before the loops: at y + more, or further on at `start`.
abbrev Begun : List ℕ → List ℕ → ℕ → ℕ → List ℕ → List ℕ → ℕ → Type 0
Begun periods costs n constant before ends x =
    Climbing periods costs ends n constant x × (length ends ≡ length before)

begun_at : (periods costs : List ℕ) (n constant : ℕ) (before : List ℕ) {ends ends' : List ℕ} {x x' : ℕ} → ends ≡ ends' → x ≡ x' → Begun periods costs n constant before ends' x' → Begun periods costs n constant before ends x
begun_at periods costs n constant before e f b = rw (e, f) b

-- What holds once load t is ahead.
abbrev Stepped : List ℕ → List ℕ → ℕ → ℕ → List ℕ → ℕ → ℕ → ℕ → List ℕ → ℕ → Type 0
Stepped periods costs n constant before from t bound ends x =
    (length ends ≡ length before) × Climbing periods costs ends n constant x × (x < 2 ^ 25) × Passed ends from x (t + 1) × (x ≤ bound)

stepped_at : (periods costs : List ℕ) (n constant : ℕ) (before : List ℕ) (from t bound : ℕ) {ends ends' : List ℕ} {x x' : ℕ} → ends ≡ ends' → x ≡ x' → Stepped periods costs n constant before from t bound ends' x' → Stepped periods costs n constant before from t bound ends x
stepped_at periods costs n constant before from t bound e f b = rw (e, f) b

pub returns-then-bound-from-clause-found : goal.returns-then-bound-from-clause-found
returns-then-bound-from-clause-found c =
    let begun : Begun c.args.self.now.loads.periods.now c.args.self.now.loads.costs.now c.args.n (afterwards c.args.self.now.loads.periods.now c.args.self.now.loads.costs.now c.args.n c.args.y c.args.more) c.args.ends.now c.if-x-start.ends c.if-x-start.x = (elim c.if-x-start.branch [
      | then-x-start w ↦ begun_at c.args.self.now.loads.periods.now c.args.self.now.loads.costs.now c.args.n (afterwards c.args.self.now.loads.periods.now c.args.self.now.loads.costs.now c.args.n c.args.y c.args.more) c.args.ends.now w.ends-is w.x-is (climbs_start _ _ _ _ _ _ _ _ c.requires.after w.advanced-x.ensures w.if-x-start.true, w.advanced-x.ensures.same_length)
      | else-x-start w ↦ begun_at c.args.self.now.loads.periods.now c.args.self.now.loads.costs.now c.args.n (afterwards c.args.self.now.loads.periods.now c.args.self.now.loads.costs.now c.args.n c.args.y c.args.more) c.args.ends.now w.ends-is w.x-is (climbs_from _ _ _ _ _ _ _ _ c.requires.after, refl)
    ]) in
    let over : c.args.bound < c.if-x-start.x = omega (arith, c.if-bound-from.true, c.from.ensures) in
    found_none (too_far _ _ _ _ _ _ c.requires.after.waits.fit begun.0 _ over) over

pub passes-init : goal.passes-init
passes-init c =
    let begun : Begun c.args.self.now.loads.periods.now c.args.self.now.loads.costs.now c.args.n (afterwards c.args.self.now.loads.periods.now c.args.self.now.loads.costs.now c.args.n c.args.y c.args.more) c.args.ends.now c.if-x-start.ends c.if-x-start.x = (elim c.if-x-start.branch [
      | then-x-start w ↦ begun_at c.args.self.now.loads.periods.now c.args.self.now.loads.costs.now c.args.n (afterwards c.args.self.now.loads.periods.now c.args.self.now.loads.costs.now c.args.n c.args.y c.args.more) c.args.ends.now w.ends-is w.x-is (climbs_start _ _ _ _ _ _ _ _ c.requires.after w.advanced-x.ensures w.if-x-start.true, w.advanced-x.ensures.same_length)
      | else-x-start w ↦ begun_at c.args.self.now.loads.periods.now c.args.self.now.loads.costs.now c.args.n (afterwards c.args.self.now.loads.periods.now c.args.self.now.loads.costs.now c.args.n c.args.y c.args.more) c.args.ends.now w.ends-is w.x-is (climbs_from _ _ _ _ _ _ _ _ c.requires.after, refl)
    ]) in
    let within : c.if-x-start.x ≤ c.args.bound = omega (arith, c.if-bound-from.false, c.from.ensures) in
    let small = climb_small _ _ _ _ _ _ c.requires.after.waits.fit begun.0 _ (total_starts _ _ _ _ _ _ _ _ c.requires.after) c.requires.bounded within in
    (begun.1, begun.0, omega (arith, small), within)

pub ask-requires-clause-behind : goal.ask-requires-clause-behind
ask-requires-clause-behind c =
    falls_behind _ _ _ _ _ _ c.requires.after.waits.fit c.loop-t.invariant.1 _ c.loop-t-test.true _ c.requires.after.free c.if-ends-t.true c.loop-t.invariant.2 (total_starts _ _ _ _ _ _ _ _ c.requires.after) c.requires.bounded

pub returns-in_err-x-clause-found : goal.returns-in_err-x-clause-found
returns-in_err-x-clause-found c =
    rw (c.from_residual.ensures) (found_none (no_solution _ _ _ _ _ _ c.requires.after.waits.fit c.loop-t.invariant.1 _ c.loop-t-test.true _ _ _ (none_caught (rw c.in_err-x.was at c.ask.ensures)) (omega arith)) (omega arith))

pub loop-t-preserved : goal.loop-t-preserved
loop-t-preserved c =
    let all_ends : length c.loop-t.ends ≡ length c.args.ends.now = c.loop-t.invariant.0 in
    let room : c.loop-t.t < length c.loop-t.ends = omega (arith, c.loop-t-test.true, c.requires.after.with_end, all_ends) in
    let stepped : Stepped c.args.self.now.loads.periods.now c.args.self.now.loads.costs.now c.args.n (afterwards c.args.self.now.loads.periods.now c.args.self.now.loads.costs.now c.args.n c.args.y c.args.more) c.loop-t.ends c.passes.x c.loop-t.t c.args.bound c.if-ends-t.ends c.if-ends-t.x = (elim c.if-ends-t.branch [
      | then-ends-t+in_ok-x w ↦ let answer = rw w.in_ok-x.was at w.ask.ensures in
          let caught = some_caught answer in
          let climbing = climbs_on _ _ _ _ _ _ c.requires.after.waits.fit c.loop-t.invariant.1 _ c.loop-t-test.true _ _ _ caught (room) answer.within in
          let small = climb_small _ _ _ _ _ _ c.requires.after.waits.fit climbing _ (total_starts _ _ _ _ _ _ _ _ c.requires.after) c.requires.bounded answer.within in
          stepped_at c.args.self.now.loads.periods.now c.args.self.now.loads.costs.now c.args.n (afterwards c.args.self.now.loads.periods.now c.args.self.now.loads.costs.now c.args.n c.args.y c.args.more) c.loop-t.ends c.passes.x c.loop-t.t c.args.bound w.ends-is w.x-is (
            answer.same_length,
            climbing,
            omega (arith, small),
            asks _ _ _ _ _ c.loop-t.invariant.3.grown (grows _ _ _ _ _ _ c.requires.after.waits.fit c.loop-t.invariant.1 _ c.loop-t-test.true _ _ _ caught w.if-ends-t.true answer.within),
            answer.within,
          )
      | else-ends-t w ↦ stepped_at c.args.self.now.loads.periods.now c.args.self.now.loads.costs.now c.args.n (afterwards c.args.self.now.loads.periods.now c.args.self.now.loads.costs.now c.args.n c.args.y c.args.more) c.loop-t.ends c.passes.x c.loop-t.t c.args.bound w.ends-is w.x-is (refl, c.loop-t.invariant.1, c.loop-t.invariant.2, passes _ _ _ _ c.loop-t.invariant.3 w.if-ends-t.false, c.loop-t.invariant.4)
    ]) in
    let g = stepped in
    (g.0 ∙ c.loop-t.invariant.0, g.1, g.2, g.3, g.4)

pub returns-then-x-before-clause-found : goal.returns-then-x-before-clause-found
returns-then-x-before-clause-found c =
    found_some (settled _ _ _ _ _ _ c.requires.after.waits.fit c.loop-t.invariant.1 (total_starts _ _ _ _ _ _ _ _ c.requires.after) (λ t a b. c.loop-t.invariant.3.unless_grown (omega (arith, c.if-x-before.true)) t a (omega arith)) _) c.loop-t.invariant.4
