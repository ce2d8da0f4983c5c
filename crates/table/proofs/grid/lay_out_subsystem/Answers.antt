use native.Mathlib.Omega.{arith}
use mathlib.Core.Path.{refl}
use Rattle.table.proofs.GridLaws.{own_line, one_line_more, block_is}
use Rattle.table.proofs.grid.lay_out_subsystem.Goals as goal

pub loop-i-init : goal.loop-i-init
loop-i-init c =
    rw c.from.ensures (own_line c.args.sub c.args.block.now _ c.requires.1 refl)

pub loop-i-preserved : goal.loop-i-preserved
loop-i-preserved c =
    one_line_more c.args.sub c.loop-i.i c.loop-i.block c.line_of.result (omega (arith, c.requires.0)) c.loop-i.invariant c.line_of.ensures.0 c.line_of.ensures.1

pub returns : goal.returns
returns c =
    (block_is c.args.sub c.loop-i.i c.loop-i.block (omega arith) c.loop-i.invariant, c.loop-i.invariant.lines)
