-- `job::best_response` meets its contract. The loop's invariant: the best of the resources passed so far.
-- Assumes nothing.
use mathlib.Core.Path.{◌≡◌}
use Rattle.job.specs.Response.{response_with}
use Rattle.job.specs.Computed.{best_of}
use Rattle.job.specs.Seen.{view_in}
use Rattle.job.proofs.best_response.Given as goal

abbrev pub invariant-loop-l : goal.invariant-loop-l
invariant-loop-l l = l.best ≡ best_of (response_with (view_in l.seen) l.k) l.l
