-- `row::row_with` meets its contract: its outcome is judged as it should be. Assumes nothing.
use Prim.Native.Nat.{◌-◌}
use mathlib.Core.Path.{ap}
use Rattle.row.specs.declared.Outcome.{Outcome}
use Rattle.row.proofs.row_with.Goals as goal

pub returns : goal.returns
returns c =
    ap
    (λ (o : Outcome).
    record {
      holding = c.args.cost - c.args.own.budget;
      failing = c.args.own.failing;
      blocking = c.args.own.blocking;
      active = c.args.active;
      jobs = c.args.jobs;
      job = c.args.worst.job;
      resource = c.args.worst.resource;
      outcome = o;
    })
    c.judge.ensures
