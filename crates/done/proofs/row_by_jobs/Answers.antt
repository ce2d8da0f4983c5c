use Prim.Native.Nat.{◌+◌, ◌*◌, ◌≤◌, ◌<◌}
use native.Mathlib.Nat.{suc-mul}
use native.Mathlib.Numerals.{add-one}
use native.Mathlib.Omega.{arith}
use mathlib.Core.Path.{◌≡◌, refl, sym, ap, ◌∙◌}
use Rattle.table.specs.Limits.{horizon}
use Rattle.row.specs.Row.{row_for}
use Rattle.search.proofs.AnswerLaws.{some_found, none_found}
use Rattle.job.specs.Seen.{view_in}
use Rattle.job.proofs.BestLaws.{worst_first, worst_step}
use Rattle.row.proofs.RowLaws.{budget_below, overrun_computed, row_with_lem, row_without_lem}
use Rattle.done.proofs.OnTheWayLaws.{reached_first, job_reached, last_job, active_reached, next_after, reached_next, nothing_reached}
use Rattle.done.proofs.row_by_jobs.Goals as goal

pub loop-release-init : goal.loop-release-init
loop-release-init c =
    let r = reached_first (view_in c.args.seen.now) c.requires.first_done in
    (r, omega arith, worst_first (view_in c.args.seen.now) (job_reached (view_in c.args.seen.now) c.requires.ends_done r (omega arith)))

pub least_after-requires-clause-after : goal.least_after-requires-clause-after
least_after-requires-clause-after c =
    let late : (c.loop-release.k + 1) * c.args.seen.now.own.period < c.loop-release.end = omega (arith, c.loop-release-test.true, c.loop-release.invariant.1) in
    next_after (view_in c.args.seen.now) c.args.seen.now.sound c.loop-release.invariant.0 (late) c.args.seen.now.free

pub row_without-requires : goal.row_without-requires
row_without-requires c =
    budget_below (view_in c.args.seen.now) c.args.seen.now.sound

pub returns-in_default : goal.returns-in_default
returns-in_default c =
    let late : (c.loop-release.k + 1) * c.args.seen.now.own.period < c.loop-release.end = omega (arith, c.loop-release-test.true, c.loop-release.invariant.1) in
    c.row_without.ensures ∙
    row_without_lem (view_in c.args.seen.now) c.args.seen.now.own.failing (overrun_computed (view_in c.args.seen.now) c.args.seen.now.sound) (nothing_reached (view_in c.args.seen.now) c.args.seen.now.sound c.loop-release.invariant.0 (late) (none_found c.in_default.ensures.found) (omega arith))

pub overflow_sub-response : goal.overflow_sub-response
overflow_sub-response c =
    let late : (c.loop-release.k + 1) * c.args.seen.now.own.period < c.loop-release.end = omega (arith, c.loop-release-test.true, c.loop-release.invariant.1) in
    let next : ((c.loop-release.k + 1) * c.args.seen.now.own.period < c.in-Some.next) × (c.in-Some.next ≤ horizon) = let r = reached_next (view_in c.args.seen.now) c.args.seen.now.sound c.loop-release.invariant.0 (late) (some_found c.in-Some.ensures.found) c.in-Some.ensures.found.within c.least_after.ensures.ends_len_unchanged in
    (r.released, r.within) in
    omega (arith, (next).0, c.loop-release.invariant.1)

pub loop-release-preserved : goal.loop-release-preserved
loop-release-preserved c =
    let late : (c.loop-release.k + 1) * c.args.seen.now.own.period < c.loop-release.end = omega (arith, c.loop-release-test.true, c.loop-release.invariant.1) in
    let r = reached_next (view_in c.args.seen.now) c.args.seen.now.sound c.loop-release.invariant.0 (late) (some_found c.in-Some.ensures.found) c.in-Some.ensures.found.within c.least_after.ensures.ends_len_unchanged in
    let after : (c.loop-release.k + 1 + 1) * c.args.seen.now.own.period ≡ (c.loop-release.k + 1) * c.args.seen.now.own.period + c.args.seen.now.own.period = rw (add-one (c.loop-release.k + 1)) (omega (arith, suc-mul (c.loop-release.k + 1) c.args.seen.now.own.period)) in (
      r,
      omega (arith, c.loop-release.invariant.1, after),
      worst_step (view_in c.args.seen.now) (c.loop-release.k + 1) c.loop-release.invariant.2 (job_reached (view_in c.args.seen.now) c.requires.ends_done r (omega (arith, c.loop-release.invariant.1))) c.worse-worst.ensures,
    )

pub row_with-requires : goal.row_with-requires
row_with-requires c =
    budget_below (view_in c.args.seen.now) c.args.seen.now.sound

pub returns : goal.returns
returns c =
    let over : c.loop-release.end ≤ (c.loop-release.k + 1) * c.args.seen.now.own.period = omega (arith, c.loop-release-test.false, c.loop-release.invariant.1) in
    c.row_with.ensures ∙ row_with_lem (view_in c.args.seen.now) c.args.seen.now.own.failing c.loop-release.end (overrun_computed (view_in c.args.seen.now) c.args.seen.now.sound) (last_job (view_in c.args.seen.now) c.args.seen.now.sound c.loop-release.invariant.0 over) c.loop-release.invariant.2 refl ∙
    ap (row_for (view_in c.args.seen.now) c.args.seen.now.own.failing) (sym (active_reached (view_in c.args.seen.now) c.args.seen.now.sound c.loop-release.invariant.0 over))
