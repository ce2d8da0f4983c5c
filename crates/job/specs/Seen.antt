-- The view that what a subsystem sees makes up. Assumes nothing.
use Rattle.job.specs.declared.seen.Seen.{Seen}
use Rattle.job.specs.View.{View}
use Rattle.job.specs.Computed.{seen_by}

abbrev pub view_in : Seen → View
view_in s = seen_by s.asking.loads.periods.now s.asking.loads.costs.now s.holdings.now s.ceilings.now s.own
