-- `done::row_by_jobs` meets its contract. The loop's invariant: job k is done at `end`, no job before it was done by
-- the next one's release, and the worst so far is that of the first k + 1 jobs. Assumes nothing.
use Prim.Native.Nat.{◌+◌, ◌-◌, ◌*◌}
use mathlib.Core.Path.{◌≡◌}
use Rattle.table.specs.Limits.{horizon}
use Rattle.job.specs.Computed.{worst_of}
use Rattle.job.specs.Seen.{view_in}
use Rattle.done.proofs.OnTheWayLaws.{Reached}
use Rattle.done.proofs.row_by_jobs.Given as goal

abbrev pub invariant-loop-release : goal.invariant-loop-release
invariant-loop-release l =
    Reached (view_in l.seen) l.k l.end l.ends × (l.release ≡ (l.k + 1) * l.seen.own.period) × (l.worst ≡ worst_of (view_in l.seen) (l.k + 1))

abbrev pub decreases-loop-release : goal.decreases-loop-release
decreases-loop-release l =
    horizon + 1 - l.k
