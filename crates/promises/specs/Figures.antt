-- The starred figures of the rules, computed from the definitions and shown together as one list. Assumes nothing.
use Rattle.std.specs.Prelude.{ℕ, ◌≡◌, refl, List, [], ◌∷◌}
use Rattle.table.specs.Meaning.{SubsystemM, System}
use Rattle.supply.specs.Supply.{supply}
use Rattle.holding.specs.Holding.{holding, resource_holding, task_holding, uses, inner_ceiling, work_above}
use Rattle.table.specs.Parts.{subsystem_count, subsystem_of, task_count, task_of, access_of, work_of}
use Rattle.lists.specs.Range.{sum_to, largest_to, first_of, first_such, first_largest, up_to, padded}
use Rattle.least.specs.Up.{up}
use Rattle.least.specs.Demand.{load_in, demand, demand_between, total}
use Rattle.least.specs.Least.{solves, least}
use Rattle.outer.specs.Parts.{count, interface_of, period_of, budget_of, holding_of, holding as overrunOf, cost_of, periods, costs}
use Rattle.outer.specs.Blocking.{accesses, outer_ceiling, reaching, blocking_by, blocking}
use Rattle.job.specs.View.{view_of, held, ceiling, overrun, cost}
use Rattle.job.specs.Ends.{active_period, jobs, ahead, budget_end, shut_out, job_end}
use Rattle.job.specs.Response.{first_at, response_with, job_response, job_resource, response, worst_job}
use Rattle.row.specs.Row.{row_of, row_for, row_with, row_without, judged, reported}
use Rattle.rows.specs.Interfaces.{interface_from, interface_at, interfaces_from}
use Rattle.row.specs.declared.Row.{Row}
use Rattle.row.specs.declared.Outcome.{Outcome}
use Rattle.row.specs.declared.Outcome.TheVariants.{Fits, Late, None}

-- A subsystem with one task.
part : ℕ → ℕ → ℕ → ℕ → ℕ → List ℕ → SubsystemM
part p q t c d accesses =
    record { period = p; budget = q; tasks = record { separation = t; work = c; deadline = d; accesses = accesses } ∷ [] }

table_a : System
table_a =
    record {
      resources = 2;
      subsystems = part 50 10 134 20 134 (6 ∷ 0 ∷ []) ∷ part 50 2 96 2 96 (0 ∷ 2 ∷ []) ∷ part 70 30 100 30 100 (10 ∷ 4 ∷ []) ∷ [];
    }

table_c : System
table_c = record { resources = 1; subsystems = part 50 14 100 100 100 (6 ∷ []) ∷ part 70 30 100 100 100 (11 ∷ []) ∷ [] }

-- Tasks C 3 without access, then C 8 with an access of 2.
two_tasks : SubsystemM
two_tasks =
    record {
      period = 100;
      budget = 10;
      tasks = record { separation = 100; work = 3; deadline = 100; accesses = 0 ∷ [] } ∷ record { separation = 100; work = 8; deadline = 100; accesses = 2 ∷ [] } ∷ [];
    }

-- The row of subsystem 2 of table C, at index 1.
row_c : Row
row_c = row_of (interfaces_from table_c) 1 0

-- An outcome as a number: 0 for none, 1 for fits, 2 for late.
abbrev kind : Outcome → ℕ
kind (Fits r) = 1
kind (Late r) = 2
kind None = 0

pub starred : List ℕ
starred =
    supply 50 10 44 74 ∷
    supply 50 10 44 84 ∷
    supply 50 10 44 124 ∷
    supply 50 10 44 133 ∷
    supply 50 10 44 134 ∷
    supply 70 30 60 99 ∷
    supply 70 30 60 100 ∷
    supply 10 10 10 17 ∷
    job_end (view_of (interfaces_from table_a) 2) 0 0 ∷
    job_end (view_of (interfaces_from table_a) 2) 0 1 ∷
    row_c.active ∷
    row_c.jobs ∷
    job_response (view_of (interfaces_from table_c) 1) 0 ∷
    job_response (view_of (interfaces_from table_c) 1) 1 ∷
    job_response (view_of (interfaces_from table_c) 1) 2 ∷
    job_response (view_of (interfaces_from table_c) 1) 3 ∷
    job_response (view_of (interfaces_from table_c) 1) 4 ∷
    reported row_c.outcome ∷
    row_c.job ∷
    kind row_c.outcome ∷
    holding 1 two_tasks ∷
    []

-- Supply 74, 84, 124, 133, 134 for 50/10/44; 99 and 100 for 70/30/60; 17 for 10/10/10. Table A: job 0 of subsystem 3 ends at 60 by
-- resource 1 and at 70 by resource 2. Table C, row 2: L, jobs, the five responses, R, its job, and late. X of the two tasks.
pub starred_figures :
    starred ≡ 0 ∷ 10 ∷ 10 ∷ 19 ∷ 20 ∷ 29 ∷ 30 ∷ 17 ∷ 60 ∷ 70 ∷ 345 ∷ 5 ∷ 61 ∷ 72 ∷ 63 ∷ 74 ∷ 65 ∷ 74 ∷ 3 ∷ 2 ∷ 5 ∷ []
unfolding starred table_a table_c two_tasks row_c part supply holding resource_holding task_holding uses inner_ceiling work_above subsystem_count subsystem_of task_count task_of access_of work_of sum_to largest_to first_of first_such first_largest up_to padded up load_in demand demand_between total solves least count interface_of period_of budget_of holding_of overrunOf cost_of periods costs accesses outer_ceiling reaching blocking_by blocking view_of held ceiling overrun cost active_period jobs ahead budget_end shut_out job_end first_at response_with job_response job_resource response worst_job row_of row_for row_with row_without judged interface_from interface_at interfaces_from
starred_figures = refl
