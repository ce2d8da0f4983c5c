-- `local::first_failing_task` meets its contract. Assumes nothing.
use Prim.Native.Nat.{◌≤◌}
use Rattle.table.specs.Limits.{most}
use Rattle.local.specs.Ready.{TakenOut}
use Rattle.local.proofs.FailingLaws.{FailingFrom}
use Rattle.local.proofs.first_failing_task.Given as goal

abbrev pub invariant-loop-i : goal.invariant-loop-i
invariant-loop-i l =
    (l.i-end ≤ most) × TakenOut l.part.block.now l.separations l.works l.i × FailingFrom l.part.m l.part.block.now l.end l.i
