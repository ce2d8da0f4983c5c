use Rattle.table.proofs.ZerosLaws.{all_zero, task_zero, subsystem_zero}
use Rattle.table.specs.Zeros.{zero_task}
use Rattle.table.proofs.Subsystem.zeros.Goals as goal

pub returns : goal.returns
returns c =
    let e = c.default.ensures in
    subsystem_zero _ (e.0, e.1.0, e.1.1.0, all_zero _ zero_task (λ t p. task_zero t (p.0, p.1.0, p.1.1.0, all_zero _ 0 (λ x q. q) p.1.1.1)) e.1.1.1)
