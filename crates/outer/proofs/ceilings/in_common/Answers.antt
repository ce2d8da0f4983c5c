-- `outer::ceilings::in_common` meets its contract: its parts do. Assumes nothing.
use Rattle.outer.proofs.CommonLaws.{common_is, frees_fit}
use Rattle.outer.proofs.ceilings.in_common.Goals as goal

pub frees_of-requires : goal.frees_of-requires
frees_of-requires c =
    let fit = frees_fit c.args.shown.now.n c.args.shown.now.m c.args.shown.now.lines.now _ _ c.args.shown.now.sound c.periods_of-periods.ensures c.costs_of-costs.ensures in
    record { n_le_most = fit.0; by_index = fit.1 }

pub blockings_of-requires : goal.blockings_of-requires
blockings_of-requires c = c.ceilings_of-ceilings.ensures

pub returns : goal.returns
returns c =
    common_is c.args.shown.now.n c.args.shown.now.m c.args.shown.now.lines.now _ _ _ _ _ c.periods_of-periods.ensures c.costs_of-costs.ensures c.frees_of.ensures c.ceilings_of-ceilings.ensures c.blockings_of.ensures
