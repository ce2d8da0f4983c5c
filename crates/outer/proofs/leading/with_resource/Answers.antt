use Prim.Native.Nat.{◌<◌}
use native.Mathlib.Omega.{arith}
use Rattle.table.specs.Limits.{most}
use Rattle.outer.specs.Interfaces.{held_at}
use Rattle.outer.specs.Leading.{ceiling_at}
use Rattle.outer.proofs.EnteringLaws.{no_rival_zero, no_rival_next, entered_none, entered_behind, entered_instead, entered_first}
use Rattle.outer.proofs.leading.with_resource.Goals.{else-ceilings-j-via-else-ceilings-j, else-ceilings-j-via-then-ceilings-j+else-deciding-j-ne0, then-deciding-j, else-deciding-j}
use Rattle.outer.proofs.leading.with_resource.Goals as goal

pub returns-then-x-eq0 : goal.returns-then-x-eq0
returns-then-x-eq0 c =
    let room : c.args.l < most = omega (arith, c.requires.s_lt_most.1, c.requires.s_lt_most.2) in
    entered_none (held_at c.args.lines.now c.args.s) (ceiling_at c.args.ceilings.now) most c.args.l c.args.deciding.now c.held-x.result (room) c.requires.deciding_value c.held-x.ensures c.if-x-eq0.true

pub loop-j-init : goal.loop-j-init
loop-j-init c =
    (c.requires.deciding_value, no_rival_zero (ceiling_at c.args.ceilings.now) c.args.l c.args.deciding.now)

pub returns : goal.returns
returns c =
    let room : c.args.l < most = omega (arith, c.requires.s_lt_most.1, c.requires.s_lt_most.2) in
    entered_first (held_at c.args.lines.now c.args.s) (ceiling_at c.args.ceilings.now) most c.args.l c.loop-j.deciding c.held-x.result (room) c.loop-j.invariant.0 c.held-x.ensures c.if-x-eq0.false c.loop-j.j (omega arith) c.loop-j.invariant.1

pub returns-then-deciding-j-ne0 : goal.returns-then-deciding-j-ne0
unfolding ceiling_at
returns-then-deciding-j-ne0 c =
    let room : c.args.l < most = omega (arith, c.requires.s_lt_most.1, c.requires.s_lt_most.2) in
    (elim c.if-deciding-j.branch [
      | then-deciding-j w ↦ rw w.deciding-is (entered_instead (held_at c.args.lines.now c.args.s) (ceiling_at c.args.ceilings.now) most c.args.l c.loop-j.deciding c.held-x.result room c.loop-j.invariant.0 c.held-x.ensures c.loop-j.j c.loop-j-test.true c.if-ceilings-j.true c.if-deciding-j-ne0.true (omega (arith, w.if-deciding-j.true)))
      | else-deciding-j w ↦ rw w.deciding-is (entered_behind (held_at c.args.lines.now c.args.s) (ceiling_at c.args.ceilings.now) most c.args.l c.loop-j.deciding c.held-x.result room c.loop-j.invariant.0 c.held-x.ensures c.loop-j.j c.loop-j-test.true c.if-ceilings-j.true c.if-deciding-j-ne0.true (omega (arith, w.if-deciding-j.false)))
    ])

pub loop-j-preserved : goal.loop-j-preserved
unfolding ceiling_at
loop-j-preserved c = (
  c.loop-j.invariant.0,
  no_rival_next (ceiling_at c.args.ceilings.now) c.args.l c.loop-j.deciding c.loop-j.j
      (λ e. (elim c.else-ceilings-j.branch [ else-ceilings-j-via-then-ceilings-j+else-deciding-j-ne0 w ↦ w.if-deciding-j-ne0.false | else-ceilings-j-via-else-ceilings-j w ↦ absurd (w.if-ceilings-j.false e) ])) c.loop-j.invariant.1,
)
