-- `ends::blocking_in` meets its contract: B(s) is in its slot. Assumes nothing.
use Rattle.job.proofs.LentLaws as lent
use Rattle.ends.proofs.blocking_in.Goals as goal

pub returns : goal.returns
returns c =
    lent.blocking_lent c.args.known.now.shown.n c.args.known.now.shown.m c.args.known.now.shown.lines.now c.args.known.now.common.now c.args.known.now.shown.sound c.args.known.now.common_value c.args.s c.requires
