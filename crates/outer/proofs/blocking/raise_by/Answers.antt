use Prim.Native.Nat.{◌+◌, ◌-◌, ◌<◌}
use native.Mathlib.Omega.{arith}
use mathlib.Core.Path.{◌≡◌, refl, sym, ap, ◌∙◌}
use Rattle.lists.specs.Range.{behind}
use Rattle.lists.proofs.Raised.{behind_last, behind_next, raised_last, raised_next, raised_all}
use Rattle.table.specs.Limits.{most}
use Rattle.outer.specs.Blocked.{column_of, blocked_in}
use Rattle.outer.proofs.BlockingLaws.{blocked_more}
use Rattle.outer.proofs.blocking.raise_by.Goals as goal

pub loop-s-init : goal.loop-s-init
loop-s-init c =
    let n = c.args.shown.now.n in
    let f = column_of c.args.shown.now.lines.now c.args.l in
    let a = blocked_in c.args.shown.now.lines.now n c.args.l in (
      omega (arith, c.requires.l_lt_most),
      (sym (behind_last f n _ (omega arith)), raised_last f n a most _ (omega arith) c.requires.blockings_value),
    )

pub loop-s-preserved : goal.loop-s-preserved
loop-s-preserved c =
    let n = c.args.shown.now.n in
    let f = column_of c.args.shown.now.lines.now c.args.l in
    let a = blocked_in c.args.shown.now.lines.now n c.args.l in
    let next : c.loop-s.s ≡ c.loop-s.s - 1 + 1 = omega (arith, c.loop-s-test.true) in
    let within : c.loop-s.s < n = omega (arith, c.requires.l_lt_most) in
    let here : c.held.result ≡ f c.loop-s.s = c.held.ensures ∙ ap f (sym next) in
    let longest : c.max-longest.result ≡ behind f n (c.loop-s.s - 1) =
    omega (arith, c.max-longest.ensures, here, c.loop-s.invariant.1.0, behind_next f n (c.loop-s.s - 1) c.loop-s.s next within) in (
      omega (arith, c.loop-s-test.true),
      (longest, raised_next f n a most (c.loop-s.s - 1) c.loop-s.s next within longest c.loop-s.invariant.1.1 refl (omega (arith, c.max.ensures))),
    )

pub returns : goal.returns
returns c =
    let n = c.args.shown.now.n in
    let lines = c.args.shown.now.lines.now in
    raised_all (column_of lines c.args.l) n (blocked_in lines n c.args.l) most c.loop-s.s _ c.loop-s.invariant.1.1
    (blocked_more n lines c.args.l c.loop-s.s (omega (arith, c.loop-s-test.false, c.loop-s.invariant.0, c.requires.l_lt_most)))
