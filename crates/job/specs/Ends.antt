-- Active period, jobs, budget end and job end (steps 7 to 10; source 002, equations 12, 13, 15, 16, 18 and 21), each a least
-- solution over the loads of higher subsystems. Assumes nothing.
use Rattle.std.specs.Prelude.{ℕ, ◌+◌, ◌*◌}
use Rattle.std.proofs.Math.Option.{Option}
use Rattle.least.specs.Up.{up}
use Rattle.least.specs.Demand.{demand_between}
use Rattle.least.specs.Least.{least}
use Rattle.table.specs.Limits.{horizon}
use Rattle.outer.specs.Blocking.{number_or}
use Rattle.job.specs.View.{View, held, ceiling, cost}

-- Step 7. L(s): the least x ≥ 1 with x = B(s) + sum over t ≤ s of Up(x, P(t)) × (Q(t) + X(t)), where one is at or below
-- the horizon.
unfoldable pub active_period : View → Option ℕ
active_period v = least v.periods v.costs (v.place + 1) v.blocking horizon

-- Step 8. The jobs of an active period: Up(L(s), P(s)). They are numbered from 0.
unfoldable pub jobs : View → ℕ → ℕ
jobs v active = up active v.period

-- What job k waits for besides higher subsystems, up to the end of its budget: B(s) + k × (Q + X) + Q.
unfoldable pub ahead : View → ℕ → ℕ
ahead v k = v.blocking + k * cost v + v.budget

-- Step 9. F(k): the least x ≥ 1 with x = B(s) + k × (Q + X) + Q + sum over t < s of Up(x, P(t)) × (Q(t) + X(t)). Every job
-- of an active period has one, by `budget-end-exists`; 0 stands for none.
unfoldable pub budget_end : View → ℕ → ℕ
budget_end v k = number_or 0 (least v.periods v.costs v.place (ahead v k) horizon)

-- What the subsystems RC(l) ≤ t < s have taken by F(k), after which they wait: sum of Up(F(k), P(t)) × (Q(t) + X(t)).
unfoldable pub shut_out : View → ℕ → ℕ → ℕ
shut_out v k l = demand_between v.periods v.costs (ceiling v l) v.place (budget_end v k)

-- Step 10. The job end with resource l: the least x ≥ 1 with x = B(s) + k × (Q + X) + Q + X(s, l) + what was taken by F(k)
-- + sum over t < RC(l) of Up(x, P(t)) × (Q(t) + X(t)). Every job of an active period has one for each X(s, l) above 0, by
-- `job-end-exists`; 0 stands for none.
unfoldable pub job_end : View → ℕ → ℕ → ℕ
job_end v k l =
    number_or 0 (least v.periods v.costs (ceiling v l) (ahead v k + held v l + shut_out v k l) horizon)
