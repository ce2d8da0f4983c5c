use native.Mathlib.Omega.{arith}
use Rattle.std.proofs.lemmas.Result.{err_from_is_err_and}
use Rattle.reader.proofs.ReadSubsystems.{subsystems_begin, subsystems_stop, subsystems_go_on, left_over_stops, subsystems_end}
use Rattle.reader.proofs.read.read_subsystems.Goals as goal

pub loop-s-init : goal.loop-s-init
loop-s-init c =
    subsystems_begin c.args.file.now c.args.m c.args.n c.args.grid.now c.requires.m_in_bounds.0 c.requires.m_in_bounds.1

pub read_subsystem-requires : goal.read_subsystem-requires
read_subsystem-requires c =
    (c.requires.m_le_most.0, (c.loop-s.invariant.within, c.loop-s.invariant.blocks.lines c.loop-s.s (omega (arith, c.loop-s-test.true, c.requires.n_le_most.0))))

pub returns-in_err-at : goal.returns-in_err-at
returns-in_err-at c =
    let p = err_from_is_err_and c.from_residual.result c.from_residual.ensures.1 in
    rw (p.1, p.2)
    (subsystems_stop c.args.file.now c.args.m c.args.n c.loop-s.s c.loop-s.at c.loop-s.grid c.loop-s.invariant c.loop-s-test.true c.requires.n_le_most.0 _ c.read_subsystem.result c.read_subsystem.ensures c.in_err-at.field-0.0 c.in_err-at.was)

pub loop-s-preserved : goal.loop-s-preserved
loop-s-preserved c =
    subsystems_go_on c.args.file.now c.args.m c.args.n c.loop-s.s c.loop-s.at c.loop-s.grid c.loop-s.invariant c.loop-s-test.true c.requires.n_le_most.0 _ c.read_subsystem.result c.read_subsystem.ensures c.in_ok-at.at c.in_ok-at.was

pub returns-then-at-file : goal.returns-then-at-file
returns-then-at-file c =
    rw c.misread_at.ensures
    (left_over_stops c.args.file.now c.args.m c.args.n c.loop-s.s c.loop-s.at c.loop-s.grid c.loop-s.invariant (omega arith) c.if-at-file.true)

pub returns : goal.returns
returns c =
    subsystems_end c.args.file.now c.args.m c.args.n c.loop-s.s c.loop-s.at c.loop-s.grid c.loop-s.invariant (omega arith) c.if-at-file.false c.requires.n_le_most.1 c.requires.m_le_most.1
