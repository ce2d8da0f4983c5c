use native.Mathlib.Omega.{arith}
use mathlib.Core.Path.{sym, ap, ◌∙◌}
use Prim.Native.Nat.{ℕ, ◌<◌}
use Rattle.table.specs.Grid.{block_in, subsystem_in, system_in}
use Rattle.table.proofs.GridLaws.{count_of_grid, resources_of_grid, subsystem_of_grid}
use Rattle.reader.specs.Taken.{subsystem_with}
use Rattle.reader.proofs.TakenLaws.{table_begins, table_goes_on, table_ends}
use Rattle.reader.proofs.taken.table_of.Goals as goal

pub loop-s-init : goal.loop-s-init
loop-s-init c =
    table_begins (system_in c.args.n c.args.m c.args.grid.now) c.zeros.result c.args.n c.args.m c.zeros.ensures (sym (count_of_grid c.args.n c.args.m c.args.grid.now)) (sym (resources_of_grid c.args.n c.args.m c.args.grid.now))

pub subsystem_of-requires : goal.subsystem_of-requires
subsystem_of-requires c =
    (c.requires.1.1 c.loop-s.s (omega (arith, c.loop-s-test.true, c.from-s-end.ensures)), omega (arith, c.from.ensures, c.requires.1.0))

pub loop-s-preserved : goal.loop-s-preserved
loop-s-preserved c =
    let below : c.loop-s.s < c.args.n = omega (arith, c.loop-s-test.true, c.from-s-end.ensures) in
    table_goes_on (system_in c.args.n c.args.m c.args.grid.now) c.loop-s.s c.subsystem_of.result c.loop-s.t (omega (arith, below, c.requires.0)) c.loop-s.invariant
    (c.subsystem_of.ensures ∙
    ap (λ (m : ℕ). subsystem_with (subsystem_in m (block_in c.args.grid.now c.loop-s.s))) c.from.ensures ∙
    ap subsystem_with (sym (subsystem_of_grid c.args.n c.args.m c.args.grid.now c.loop-s.s below)))

pub returns : goal.returns
returns c =
    table_ends (system_in c.args.n c.args.m c.args.grid.now) c.loop-s.s c.loop-s.t (omega (arith, count_of_grid c.args.n c.args.m c.args.grid.now)) c.loop-s.invariant
