use native.Mathlib.Omega.{arith}
use Rattle.table.proofs.GridLaws.{no_block_yet, one_block_more, grid_is, grid_means}
use Rattle.table.proofs.grid.lay_out.Goals as goal

pub loop-s-init : goal.loop-s-init
loop-s-init c =
    no_block_yet c.args.t c.args.grid.now c.requires.1

pub loop-s-preserved : goal.loop-s-preserved
loop-s-preserved c =
    one_block_more c.args.t c.loop-s.s c.loop-s.grid _ (omega (arith, c.requires.0.subsystems_most)) c.loop-s.invariant c.lay_out_subsystem.ensures.1 c.lay_out_subsystem.ensures.0

pub returns : goal.returns
returns c =
    grid_means c.args.t c.loop-s.grid c.requires.0.resources_most
    (grid_is c.args.t c.loop-s.s c.loop-s.grid (omega arith) c.loop-s.invariant)
