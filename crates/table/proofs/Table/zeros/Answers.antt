use Rattle.table.proofs.ZerosLaws.{all_zero, task_zero, subsystem_zero, table_zero}
use Rattle.table.specs.Zeros.{zero_task, zero_subsystem}
use Rattle.table.proofs.Table.zeros.Goals as goal

pub returns : goal.returns
returns c =
    let e = c.default.ensures in
    table_zero _ (e.0, e.1.0, all_zero _ zero_subsystem (λ u q. subsystem_zero u (q.0, q.1.0, q.1.1.0, all_zero _ zero_task (λ t p. task_zero t (p.0, p.1.0, p.1.1.0, all_zero _ 0 (λ x r. r) p.1.1.1)) q.1.1.1)) e.1.1)
