use Prim.Native.Nat.{◌+◌}
use Rattle.job.specs.Seen.{view_in}
use Rattle.job.proofs.ActiveLaws.{active_within, budget_at_most}
use Rattle.responses.proofs.JobsLaws.{job_counted, some_jobs, release_fits, end_small, budget_by_its_end}
use Rattle.job.proofs.WaitLaws.{first_is}
use Rattle.responses.proofs.SkipLaws.{worst_to_none, worst_to_judged, worst_of_all, ended_by, passed_over, response_above_zero, room_there, settled_from}
use native.Mathlib.Omega.{arith}
use Rattle.responses.proofs.largest_response.Goals.{else-may_be_worse, then-may_be_worse}
use Rattle.responses.proofs.largest_response.Goals as goal

pub overflow_sub-last : goal.overflow_sub-last
overflow_sub-last c =
    omega (arith, some_jobs _ c.args.seen.now.sound c.requires.jobs)

pub overflow_mul-room : goal.overflow_mul-room
overflow_mul-room c =
    record { fits = omega (arith, room_there _ c.args.seen.now.sound c.requires.jobs c.args.seen.now.sound.own_cost, active_within _ c.args.seen.now.sound c.requires.jobs.is_active) }

pub overflow_sub-room : goal.overflow_sub-room
overflow_sub-room c =
    room_there _ c.args.seen.now.sound c.requires.jobs c.args.seen.now.sound.own_cost

pub loop-k-init : goal.loop-k-init
loop-k-init c =
    (some_jobs _ c.args.seen.now.sound c.requires.jobs, omega (arith, some_jobs _ c.args.seen.now.sound c.requires.jobs), λ u. absurd (omega (arith, u)), worst_to_none _, record { is_end = first_is _ c.args.seen.now.sound c.requires.first_end; with_end = c.requires.first_end.with_end; ends_at = c.requires.first_end.ends_at })

pub overflow_sub-sure : goal.overflow_sub-sure
overflow_sub-sure c =
    omega (arith, c.args.seen.now.sound.own_cost, budget_at_most (view_in c.args.seen.now))

pub overflow_add-sure : goal.overflow_add-sure
overflow_add-sure c =
    let here = job_counted _ c.requires.jobs c.loop-k.k (omega (arith, c.loop-k.invariant.0)) in
    record { fits = omega (arith, c.loop-k.invariant.4.is_end, end_small _ c.args.seen.now.sound here, c.args.seen.now.sound.own_cost, c.args.seen.now.sound.fits, c.args.seen.now.sound.period_small) }

pub may_be_worse-requires-clause-period_bound : goal.may_be_worse-requires-clause-period_bound
may_be_worse-requires-clause-period_bound c =
    let here = job_counted _ c.requires.jobs c.loop-k.k (omega (arith, c.loop-k.invariant.0)) in
    let next = job_counted _ c.requires.jobs (c.loop-k.k + 1) (omega (arith, c.loop-k-test.true, c.loop-k.invariant.1)) in
    (release_fits _ c.args.seen.now.sound here, budget_by_its_end _ c.args.seen.now.sound next c.next_end-next.ensures.is_end)

pub loop-k-preserved : goal.loop-k-preserved
loop-k-preserved c =
    let here = job_counted _ c.requires.jobs c.loop-k.k (omega (arith, c.loop-k.invariant.0)) in
    let after = job_counted _ c.requires.jobs (c.loop-k.k + 1) (omega (arith, c.loop-k-test.true, c.loop-k.invariant.1)) in
    let first = job_counted _ c.requires.jobs 0 (some_jobs _ c.args.seen.now.sound c.requires.jobs) in (
      omega (arith, c.loop-k-test.true, c.loop-k.invariant.1),
      (elim c.if-may_be_worse.branch [ then-may_be_worse w ↦ rw w.until-is (omega (arith, w.settled_from-until.ensures.0, some_jobs _ c.args.seen.now.sound c.requires.jobs)) | else-may_be_worse w ↦ rw w.until-is c.loop-k.invariant.1 ]),
      (elim c.if-may_be_worse.branch [ then-may_be_worse w ↦ rw (w.worst-is, w.until-is) (λ u. omega (arith, w.settled_from-until.ensures.1 (omega (arith, u)))) | else-may_be_worse w ↦ rw (w.worst-is, w.until-is) c.loop-k.invariant.2 ]),
      (elim c.if-may_be_worse.branch [ then-may_be_worse w ↦ rw w.worst-is (worst_to_judged _ c.loop-k.k (response_above_zero _ c.args.seen.now.sound first) c.loop-k.worst c.loop-k.invariant.3 w.job_response-job.ensures w.worse-worst.ensures) | else-may_be_worse w ↦ rw w.worst-is (passed_over _ c.args.seen.now.sound c.loop-k.k here c.loop-k.worst (ended_by _ c.args.seen.now.sound c.loop-k.k here after c.loop-k.invariant.4 c.next_end-next.ensures.is_end c.args.seen.now.sound.own_cost _ c.is_plain-plain.ensures (c.may_be_worse.ensures w.if-may_be_worse.false)) c.loop-k.invariant.3) ]),
      c.next_end-next.ensures,
    )

pub returns-then-until-last : goal.returns-then-until-last
returns-then-until-last c =
    settled_from _ c.args.seen.now.sound c.requires.jobs c.args.seen.now.sound.own_cost c.loop-k.until c.loop-k.k c.loop-k.worst (c.loop-k.invariant.2 (omega (arith, c.if-until-last.true))) c.loop-k-test.false (omega (arith, c.loop-k.invariant.0)) c.loop-k.invariant.3

pub returns : goal.returns
returns c =
    let first = job_counted _ c.requires.jobs 0 (some_jobs _ c.args.seen.now.sound c.requires.jobs) in
    worst_of_all _ c.loop-k.k _ _ (omega (arith, c.if-until-last.false, c.loop-k-test.false, c.loop-k.invariant.0, c.loop-k.invariant.1))
    (worst_to_judged _ c.loop-k.k (response_above_zero _ c.args.seen.now.sound first) c.loop-k.worst c.loop-k.invariant.3 c.job_response-job-2.ensures c.worse.ensures)
