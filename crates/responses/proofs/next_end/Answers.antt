-- `responses::next_end` meets its contract: the search goes on from the last budget end, with or without a further start. Assumes nothing.
use native.Mathlib.Omega.{arith}
use Prim.Native.Nat.{◌+◌}
use Rattle.search.proofs.ClimbLaws.{starts_nowhere}
use Rattle.responses.proofs.JobsLaws.{counted_before, job_small, ahead_within}
use Rattle.job.proofs.WaitLaws.{next_after, next_down, next_found, starts_by_spare}
use Rattle.responses.proofs.next_end.Goals as goal

pub overflow_add-k : goal.overflow_add-k
overflow_add-k c =
    record { fits = omega (arith, job_small _ c.args.seen.now.sound c.requires.counted) }

pub overflow_mul-k : goal.overflow_mul-k
overflow_mul-k c =
    record { fits = omega (arith, ahead_within _ c.args.seen.now.sound c.requires.counted c.args.seen.now.sound.own_cost) }

pub overflow_add-own : goal.overflow_add-own
overflow_add-own c =
    record { fits = omega (arith, ahead_within _ c.args.seen.now.sound c.requires.counted c.args.seen.now.sound.own_cost) }

pub overflow_add-own-2 : goal.overflow_add-own-2
overflow_add-own-2 c =
    record { fits = omega (arith, ahead_within _ c.args.seen.now.sound c.requires.counted c.args.seen.now.sound.own_cost) }

pub standing-start-requires : goal.standing-start-requires
standing-start-requires c =
    (omega (arith, ahead_within _ c.args.seen.now.sound c.requires.counted c.args.seen.now.sound.own_cost), (rw c.in-Some.is at c.requires.spare_value).0)

pub least_within-requires : goal.least_within-requires
least_within-requires c =
    let here = counted_before _ c.requires.counted in
    record {
      after = next_after _ c.args.seen.now.sound here c.requires.ended.is_end c.requires.ended.ends_at c.requires.ended.with_end c.args.seen.now.free (starts_nowhere _ _);
      comes_down = next_down _ c.args.seen.now.sound here c.requires.ended.is_end c.requires.counted;
    }

pub returns-in_default : goal.returns-in_default
returns-in_default c =
    record { is_end = next_found _ c.args.seen.now.sound (counted_before _ c.requires.counted) c.requires.ended.is_end c.requires.counted c.least_within.ensures.least; with_end = omega (arith, c.requires.ended.with_end, c.least_within.ensures.ends_at.1); ends_at = c.least_within.ensures.ends_at.0 }

pub least_within-requires-2 : goal.least_within-requires-2
least_within-requires-2 c =
    let here = counted_before _ c.requires.counted in
    let told = rw c.in-Some.is at c.requires.spare_value in
    record {
      after = next_after _ c.args.seen.now.sound here c.requires.ended.is_end c.requires.ended.ends_at c.requires.ended.with_end c.args.seen.now.free
          (starts_by_spare _ c.args.seen.now.sound (c.args.k + 1) _ c.args.seen.now.sound.own_cost told.1 told.0 c.standing-start.ensures);
      comes_down = next_down _ c.args.seen.now.sound here c.requires.ended.is_end c.requires.counted;
    }

pub returns : goal.returns
returns c =
    record { is_end = next_found _ c.args.seen.now.sound (counted_before _ c.requires.counted) c.requires.ended.is_end c.requires.counted c.least_within-2.ensures.least; with_end = omega (arith, c.requires.ended.with_end, c.least_within-2.ensures.ends_at.1); ends_at = c.least_within-2.ensures.ends_at.0 }
