-- `search::Asking::ask` meets its contract: once is enough, or it never is, or it takes as often as the free ticks say.
-- Assumes nothing.
use native.Mathlib.Omega.{arith}
use Prim.Native.Nat.{◌≤◌}
use lib.ListN.{get_or}
use Rattle.search.proofs.CatchLaws.{once, never, never_small, as_often, out_of_bound, bound_small, reached_is, moves_on}
use Rattle.search.proofs.AnswerLaws.{caught_some, caught_none}
use Rattle.search.proofs.Asking.ask.Goals as goal

pub returns-then-bound-from : goal.returns-then-bound-from
returns-then-bound-from c =
    caught_none (once c.args.ends.now c.args.t _ _ _ _ _ c.requires.behind c.if-behind-free.true) (omega (arith, c.if-bound-from.true, c.from.ensures))

pub returns-then-behind-free : goal.returns-then-behind-free
returns-then-behind-free c =
    caught_some (once c.args.ends.now c.args.t _ _ _ _ _ c.requires.behind c.if-behind-free.true) (omega (arith, c.if-bound-from.false, c.from.ensures))

pub returns-then-free-eq0 : goal.returns-then-free-eq0
returns-then-free-eq0 c =
    caught_none (never c.args.ends.now c.args.t _ _ _ _ _ c.requires.behind c.if-free-eq0.true) (never_small c.args.ends.now c.args.t _ _ _ _ _ c.requires.behind c.if-free-eq0.true)

pub returns-then-bound-reached : goal.returns-then-bound-reached
returns-then-bound-reached c =
    let some : 1 ≤ get_or c.args.self.now.frees.now c.args.t 0 = omega (arith, c.if-free-eq0.false) in
    let is = reached_is c.args.ends.now c.args.t _ _ _ _ _ c.requires.behind some c.round_up-times.ensures c.from-2.ensures c.from-3.ensures c.from-4.ensures in
    let caught = out_of_bound c.args.ends.now c.args.t _ _ _ _ _ c.requires.behind some (omega (arith, c.if-bound-reached.true, is)) in
    caught_none caught (bound_small c.args.ends.now c.args.t _ _ _ _ _ c.requires.behind some (omega (arith, c.if-bound-reached.true, is)))

pub overflow_mul-ends : goal.overflow_mul-ends
overflow_mul-ends c =
    let some : 1 ≤ get_or c.args.self.now.frees.now c.args.t 0 = omega (arith, c.if-free-eq0.false) in
    let fit = moves_on c.args.ends.now c.args.t _ _ _ _ _ c.requires.behind some c.round_up-times.ensures c.from-2.ensures c.from-3.ensures c.from-4.ensures c.if-bound-reached.false in
    record { fits = omega (arith, fit.1) }

pub overflow_add-ends-2 : goal.overflow_add-ends-2
overflow_add-ends-2 c =
    let some : 1 ≤ get_or c.args.self.now.frees.now c.args.t 0 = omega (arith, c.if-free-eq0.false) in
    let fit = moves_on c.args.ends.now c.args.t _ _ _ _ _ c.requires.behind some c.round_up-times.ensures c.from-2.ensures c.from-3.ensures c.from-4.ensures c.if-bound-reached.false in
    record { fits = omega (arith, fit.1) }

pub overflow_cast-result : goal.overflow_cast-result
overflow_cast-result c =
    let some : 1 ≤ get_or c.args.self.now.frees.now c.args.t 0 = omega (arith, c.if-free-eq0.false) in
    let fit = moves_on c.args.ends.now c.args.t _ _ _ _ _ c.requires.behind some c.round_up-times.ensures c.from-2.ensures c.from-3.ensures c.from-4.ensures c.if-bound-reached.false in
    record { fits = omega (arith, fit.0) }

pub returns : goal.returns
returns c =
    let some : 1 ≤ get_or c.args.self.now.frees.now c.args.t 0 = omega (arith, c.if-free-eq0.false) in
    let is = reached_is c.args.ends.now c.args.t _ _ _ _ _ c.requires.behind some c.round_up-times.ensures c.from-2.ensures c.from-3.ensures c.from-4.ensures in
    rw (c.round_up-times.ensures, is) (caught_some (as_often _ _ _ _ _ _ _ c.requires.behind some (omega (arith, c.if-bound-reached.false, is))) (omega (arith, c.if-bound-reached.false, is)))
