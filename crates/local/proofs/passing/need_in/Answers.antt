-- `local::passing::need_in` gives the constant part with what the tasks above ask for. Assumes nothing.
use Rattle.least.proofs.Demand.{total_is}
use Rattle.local.proofs.passing.need_in.Goals as goal

pub returns : goal.returns
returns c =
    total_is _ _ _ _ _ c.demand_in.ensures.0
