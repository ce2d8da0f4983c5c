-- Demand 2, over tables: the figures. Subsystems, tasks and resources count from 0 here, as do jobs. Assumes nothing.
use Rattle.std.specs.Prelude.{ℕ, ◌+◌, ◌-◌, ◌*◌, ◌≤◌, ◌<◌, ◌≡◌, Bool, true, false, cond, ◌↔◌, leb, ltb}
use Rattle.std.proofs.Common.{arith, sym, ◌∙◌, lt-ltb}
use Rattle.std.proofs.Math.Path.{refl, ap, ap₂}
use Rattle.std.proofs.Math.Option.{Option, none, some}
use Rattle.std.proofs.Math.ListN.{get_or}
use Rattle.lists.specs.Range.{sum_to, largest_to}
use Rattle.lists.proofs.Over.{below_largest}
use Rattle.lists.proofs.UpTo.{get_d_padded}
use Rattle.least.specs.Up.{up}
use Rattle.least.specs.Demand.{load_in, demand, total}
use Rattle.least.proofs.LeastLaws.{LeastUpTo, least_means, least_none}
use Rattle.table.specs.Limits.{most, horizon}
use Rattle.table.specs.declared.Table.{Table}
use Rattle.table.specs.Meaning.{meaning}
use Rattle.table.specs.Parts.{subsystem_count}
use Rattle.holding.specs.Holding.{resource_holding}
use Rattle.rules.specs.Judged.{Judged, admitted}
use Rattle.outer.specs.Interfaces.{InterfacesM}
use Rattle.outer.specs.Parts.{periods, costs}
use Rattle.outer.specs.Blocking.{blocking as step6}
use Rattle.row.specs.declared.Outcome.TheVariants.{Fits, Late, None}
use Rattle.row.specs.declared.Row.{Row}
use Rattle.job.specs.View.{View, view_of, resources, held as heldIn, overrun as rowOverrun}
use Rattle.job.specs.Ends.{active_period, jobs, budget_end, job_end}
use Rattle.job.specs.Response.{response as step11, worst_job, job_resource, job_response, response_with}
use Rattle.row.specs.Row.{row_of, row_for, row_with, row_without, judged, reported}
use Rattle.job.proofs.ViewLaws.{overrun_seen, held_seen, resources_seen}
use Rattle.rows.specs.Interfaces.{interfaces_from}
use Rattle.rows.proofs.SoundLaws.{period_shown, overrun_shown, holding_shown}
use Rattle.report.specs.declared.Report.{Report}
use Rattle.rows.specs.Rows.{row_at, failing_at, no_row}
use Rattle.report.specs.Report.{report_for, report_of}
use Rattle.promises.specs.Tables.{IsAdmitted, HasSubsystem, subsystem, overrun}

-- What the other subsystems see of a table's, and the row of subsystem s in its report.
abbrev pub interfaces : Table → InterfacesM
interfaces t = interfaces_from (meaning t)

abbrev pub row : Table → ℕ → Row
row t s = get_or (report_of (meaning t)).rows s no_row

-- What subsystem s has before it: the loads of all subsystems, and its own numbers.
abbrev pub view : Table → ℕ → View
view t s = view_of (interfaces t) s

-- The right side of step 7: B(s) + the sum over r ≤ s of Up(x, P(r)) × (Q(r) + X(r)).
abbrev pub active_side : Table → ℕ → ℕ → ℕ
active_side t s x = step6 (interfaces t) s + sum_to (load_in (periods (interfaces t)) (costs (interfaces t)) x) (s + 1)

-- x is an active period of subsystem s within the horizon.
pub record IsActivePeriod (t : Table) (s x : ℕ) : Type 0 where
  pub from : 1 ≤ x
  pub within : x ≤ horizon
  pub solution : x ≡ active_side t s x

-- An outcome with a response is not "none".
fits_or_late : (p r : ℕ) → judged p r ≡ None → ⊥
unfolding judged
fits_or_late p r e = go (leb r p) e
  where
    go : (b : Bool) → cond b (Fits r) (Late r) ≡ None → ⊥
    go true q = let z : ◌≡◌ {A = ℕ} 0 1 = cc in omega arith
    go false q = let z : ◌≡◌ {A = ℕ} 0 1 = cc in omega arith

-- The figures of a row whose active period is x.
pub record ActiveFigures (t : Table) (s x : ℕ) : Type 0 where
  -- L is the least solution of step 7 from 1 up, and within the horizon
  pub least : LeastUpTo (active_side t s) horizon x
  pub active : (row t s).active ≡ x
  -- steps 8, 2 and 6
  pub jobs : (row t s).jobs ≡ up x (subsystem t s).period
  pub holding : (row t s).holding ≡ overrun t s
  pub blocking : (row t s).blocking ≡ step6 (interfaces t) s
  -- step 11: the largest response over all jobs, the first job that has it, and the lowest resource with which it has it
  pub response : reported (row t s).outcome ≡ step11 (view t s) (row t s).jobs
  pub job : (row t s).job ≡ worst_job (view t s) (row t s).jobs
  pub resource : (row t s).resource ≡ job_resource (view t s) (row t s).job
  -- the row fits if R ≤ P, else it is late
  pub fits : (row t s).outcome ≡ judged (subsystem t s).period (reported (row t s).outcome)

reported_judged : (p r : ℕ) → reported (judged p r) ≡ r
unfolding judged
reported_judged p r = go (leb r p)
  where
    go : (b : Bool) → reported (cond b (Fits r) (Late r)) ≡ r
    go true = refl
    go false = refl

-- Every job below n and every resource that is held counts in the largest response.
counted :
    (v : View) (n k l : ℕ) → k < n → l < resources v → 0 < heldIn v l → job_end v k l ≤ step11 v n + k * v.period
unfolding step11 job_response response_with rowOverrun
counted v n k l among listed here =
    let some_held : 0 < largest_to (heldIn v) (resources v) = omega (arith, below_largest (heldIn v) (resources v) l listed) in
    let job : cond (ltb 0 (largest_to (heldIn v) (resources v))) (largest_to (response_with v k) (resources v)) (budget_end v k - k * v.period) ≤ largest_to (job_response v) n
    = below_largest (job_response v) n k among in
    let resource : cond (ltb 0 (heldIn v l)) (job_end v k l - k * v.period) 0 ≤ largest_to (response_with v k) (resources v)
    = below_largest (response_with v k) (resources v) l listed in
    let job' : largest_to (response_with v k) (resources v) ≤ largest_to (job_response v) n = rw (lt-ltb 0 (largest_to (heldIn v) (resources v)) some_held) at job in
    let resource' : job_end v k l - k * v.period ≤ largest_to (response_with v k) (resources v) = rw (lt-ltb 0 (heldIn v l) here) at resource in
    omega (arith, job', resource')

module _ (t : Table) (a : IsAdmitted t) where
  -- The report of an admitted table.
  admitted_report : report_of (meaning t) ≡ report_for admitted (meaning t)
  unfolding report_of
  admitted_report = ap (λ (j : Judged). report_for j (meaning t)) a

  module _ (s : ℕ) (h : HasSubsystem t s) where
    -- Each row of the report is the row that the steps define, with the first failing task of its subsystem.
    pub row_is_defined : row t s ≡ row_of (interfaces t) s (failing_at (meaning t) s)
    unfolding row_at
    row_is_defined =
        ap (λ (r : Report). get_or r.rows s no_row) admitted_report ∙
        get_d_padded (row_at (meaning t)) no_row no_row most (subsystem_count (meaning t)) s h

    row_for_lem : (o : Option ℕ) → active_period (view t s) ≡ o → row t s ≡ row_for (view t s) (failing_at (meaning t) s) o
    unfolding row_of
    row_for_lem o e = row_is_defined ∙ ap (row_for (view t s) (failing_at (meaning t) s)) e

    -- The X that the rows have is step 2's.
    held_shown : rowOverrun (view t s) ≡ overrun t s
    unfolding rowOverrun view_of meaning
    held_shown = overrun_seen (interfaces t) s ∙ overrun_shown (meaning t) s h

    outcome_none : (o : Option ℕ) → active_period (view t s) ≡ o → (row t s).outcome ≡ None → active_period (view t s) ≡ none
    unfolding row_for row_with judged
    outcome_none none e q = e
    outcome_none (some x) e q = absurd (fits_or_late (view t s).period (step11 (view t s) (jobs (view t s) x)) (sym (ap (λ (r : Row). r.outcome) (row_for_lem (some x) e)) ∙ q))

    found_active : {x : ℕ} → active_period (view t s) ≡ some x → LeastUpTo (active_side t s) horizon x
    unfolding active_period view_of total demand
    found_active e = least_means (periods (interfaces t)) (costs (interfaces t)) (s + 1) (step6 (interfaces t) s) horizon e

    nothing_found : ((x : ℕ) → IsActivePeriod t s x → ⊥) → (o : Option ℕ) → active_period (view t s) ≡ o → (row t s).outcome ≡ None
    unfolding row_for row_without
    nothing_found never none e = ap (λ (r : Row). r.outcome) (row_for_lem none e)
    nothing_found never (some x) e =
        let l = found_active e in
        absurd (never x (record { from = l.from; within = l.within; solution = l.solution }))

    -- A part's row says "none" exactly when no active period exists within the horizon.
    pub none_exactly_when_no_active_period : ((row t s).outcome ≡ None) ↔ ((x : ℕ) → IsActivePeriod t s x → ⊥)
    unfolding active_period view_of total demand row_for row_without
    none_exactly_when_no_active_period = (
      λ q x p. least_none (periods (interfaces t)) (costs (interfaces t)) (s + 1) (step6 (interfaces t) s) horizon (outcome_none (active_period (view t s)) refl q) x p.from p.within p.solution,
      λ never. nothing_found never (active_period (view t s)) refl,
    )

    -- Then L, jobs, R, job and resource are 0, while X and B stand.
    pub none_has_no_figures :
        (row t s).outcome ≡ None →
        ((row t s).active ≡ 0) × ((row t s).jobs ≡ 0) × (reported (row t s).outcome ≡ 0) × ((row t s).job ≡ 0) × ((row t s).resource ≡ 0) × ((row t s).holding ≡ overrun t s) × ((row t s).blocking ≡ step6 (interfaces t) s)
    unfolding row_for row_without view_of
    none_has_no_figures q =
        let e = row_for_lem none (outcome_none (active_period (view t s)) refl q) in (
          ap (λ (r : Row). r.active) e,
          ap (λ (r : Row). r.jobs) e,
          ap reported q,
          ap (λ (r : Row). r.job) e,
          ap (λ (r : Row). r.resource) e,
          ap (λ (r : Row). r.holding) e ∙ held_shown,
          ap (λ (r : Row). r.blocking) e,
        )

    -- Where some active period exists within the horizon, L is the least; the jobs are Up(L, P); and R, its job and its
    -- resource are those of the largest response over all of these jobs.
    pub figures_of_active_period : (x : ℕ) → active_period (view t s) ≡ some x → ActiveFigures t s x
    unfolding row_for row_with view_of jobs
    figures_of_active_period x e =
        let q = row_for_lem (some x) e in
        let n : (row t s).jobs ≡ up x (subsystem t s).period = ap (λ (r : Row). r.jobs) q ∙ ap (up x) (period_shown (meaning t) s h) in
        let j : (row t s).job ≡ worst_job (view t s) (row t s).jobs = ap (λ (r : Row). r.job) q ∙ ap (worst_job (view t s)) (sym (ap (λ (r : Row). r.jobs) q)) in
        record {
          least = found_active e;
          active = ap (λ (r : Row). r.active) q;
          jobs = n;
          holding = ap (λ (r : Row). r.holding) q ∙ held_shown;
          blocking = ap (λ (r : Row). r.blocking) q;
          response =
              ap (λ (r : Row). reported r.outcome) q ∙ reported_judged (view t s).period (step11 (view t s) (jobs (view t s) x)) ∙
              ap (step11 (view t s)) (sym (ap (λ (r : Row). r.jobs) q));
          job = j;
          resource = ap (λ (r : Row). r.resource) q ∙ ap (job_resource (view t s)) (sym (ap (λ (r : Row). r.job) q));
          fits = ap (λ (r : Row). r.outcome) q ∙ ap₂ judged (period_shown (meaning t) s h) (sym (ap (λ (r : Row). reported r.outcome) q ∙ reported_judged (view t s).period (step11 (view t s) (jobs (view t s) x))));
        }

    -- Every job counts, and with it every resource that is held: none ends later than R after its release.
    pub every_job_and_resource_counts :
        (x : ℕ) → active_period (view t s) ≡ some x → (k : ℕ) → k < (row t s).jobs → (l : ℕ) → l < t.resources → 0 < resource_holding (subsystem t s) l →
        job_end (view t s) k l ≤ reported (row t s).outcome + k * (subsystem t s).period
    unfolding meaning interfaces_from view_of
    every_job_and_resource_counts x e k among l listed held =
        let f = figures_of_active_period x e in
        let here : 0 < heldIn (view t s) l = rw (held_seen (interfaces t) s l listed, holding_shown (meaning t) s h l listed) held in
        let there : l < resources (view t s) = rw (resources_seen (interfaces t) s) listed in
        let c = counted (view t s) (row t s).jobs k l among there here in
        rw (f.response, ← period_shown (meaning t) s h) c
