-- `writer::put::put_accesses` meets its contract: the accesses in use are the first m of the task's. Assumes nothing.
use Prim.Native.Nat.{◌≤◌}
use native.Mathlib.Omega.{arith}
use mathlib.Core.Path.{ap}
use mathlib.Core.List.{flat_map}
use lib.ListN.{length}
use Rattle.stored.specs.File.{number_bytes}
use Rattle.stored.proofs.WriteSteps.{put_the_same, first_elements}
use Rattle.stored.proofs.FileLaws.{length_access_bytes}
use Rattle.table.specs.Meaning.{access_at}
use Rattle.writer.proofs.put.put_accesses.Goals as goal

pub put_numbers-requires : goal.put_numbers-requires
put_numbers-requires c =
    let all : c.args.m ≤ length c.args.task.access = omega arith in
    omega (arith, length_access_bytes c.args.task c.args.m, c.requires.1, ap length (first_elements 0 c.args.task.access c.args.m all))

pub returns : goal.returns
unfolding access_at
returns c =
    let all : c.args.m ≤ length c.args.task.access = omega arith in
    put_the_same _ _ _ _ _ (ap (flat_map number_bytes) (first_elements 0 c.args.task.access c.args.m all)) c.put_numbers.ensures
