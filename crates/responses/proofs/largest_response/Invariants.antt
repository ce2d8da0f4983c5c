-- `responses::largest_response` meets its contract. The loop's invariant: the worst of the jobs passed so far, where this job's
-- budget ends, and from which job on none can be worse. Assumes nothing.
use Prim.Native.Nat.{◌+◌, ◌*◌, ◌-◌, ◌≤◌, ◌<◌}
use Rattle.job.specs.Seen.{view_in}
use Rattle.responses.specs.Known.{Ended}
use Rattle.responses.proofs.SkipLaws.{WorstTo}
use Rattle.responses.proofs.largest_response.Given as goal

abbrev pub invariant-loop-k : goal.invariant-loop-k
invariant-loop-k l =
    (l.k + 1 ≤ l.n) × (l.until + 1 ≤ l.n) × (l.until + 1 < l.n → l.room ≤ l.worst.response + l.until * l.free) × WorstTo (view_in l.seen) l.k l.worst × Ended (view_in l.seen) l.k l.end l.ends

abbrev pub decreases-loop-k : goal.decreases-loop-k
decreases-loop-k l = l.n - l.k
