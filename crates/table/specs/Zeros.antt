-- A table, a subsystem and a task with zero in every slot. Assumes nothing.
use Rattle.std.specs.Prelude.{replicate}
use Rattle.table.specs.declared.Task.{Task}
use Rattle.table.specs.declared.Subsystem.{Subsystem}
use Rattle.table.specs.declared.Table.{Table}
use Rattle.table.specs.Limits.{most}

abbrev pub zero_task : Task
zero_task = record { separation = 0; work = 0; deadline = 0; access = replicate most 0 }

abbrev pub zero_subsystem : Subsystem
zero_subsystem = record { period = 0; budget = 0; count = 0; tasks = replicate most zero_task }

abbrev pub zero_table : Table
zero_table = record { count = 0; resources = 0; subsystems = replicate most zero_subsystem }
