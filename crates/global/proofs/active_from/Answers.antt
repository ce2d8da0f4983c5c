-- `global::active_from` meets its contract: the search goes on from the first budget end. Assumes nothing.
use Prim.Native.Nat.{ℕ, ◌-◌, ◌*◌}
use mathlib.Core.Path.{◌≡◌, ap, ap₂}
use lib.ListN.{get_or}
use Rattle.least.specs.Up.{up}
use Rattle.least.proofs.Up.{up_is_tight}
use Rattle.job.specs.View.{cost}
use Rattle.job.specs.Seen.{view_in}
use Rattle.job.proofs.ActiveLaws.{period_pos}
use Rattle.job.proofs.WaitLaws.{own_holds, own_small, blocking_left, active_after}
use Rattle.global.proofs.ActiveFound.{active_answer}
use native.Mathlib.Omega.{arith}
use Rattle.global.proofs.active_from.Goals as goal

pub overflow_mul-reached : goal.overflow_mul-reached
overflow_mul-reached c =
    let end_is : c.round_up-begun.result * c.args.seen.now.own.period ≡ up c.args.first (view_in c.args.seen.now).period * (view_in c.args.seen.now).period = ap (λ (q : ℕ). q * c.args.seen.now.own.period) c.round_up-begun.ensures in
    record { fits = omega (arith, end_is, up_is_tight c.args.first c.args.seen.now.own.period (period_pos _ c.args.seen.now.sound), c.args.seen.now.sound.period_small, c.requires.first_end.within) }

pub overflow_mul-more : goal.overflow_mul-more
overflow_mul-more c =
    let asked_is : c.round_up-begun.result * get_or c.args.seen.now.asking.loads.costs.now c.args.seen.now.own.place 0 ≡ up c.args.first (view_in c.args.seen.now).period * cost (view_in c.args.seen.now) = ap₂ ◌*◌ c.round_up-begun.ensures c.args.seen.now.sound.own_cost in
    record { fits = omega (arith, asked_is, own_small _ c.args.seen.now.sound c.requires.first_end, c.args.seen.now.sound.period_small, c.requires.first_end.within) }

pub overflow_sub-more : goal.overflow_sub-more
overflow_sub-more c =
    let asked_is : c.round_up-begun.result * get_or c.args.seen.now.asking.loads.costs.now c.args.seen.now.own.place 0 ≡ up c.args.first (view_in c.args.seen.now).period * cost (view_in c.args.seen.now) = ap₂ ◌*◌ c.round_up-begun.ensures c.args.seen.now.sound.own_cost in
    omega (arith, asked_is, own_holds _ c.args.seen.now.sound c.requires.first_end)

pub least_after-requires-clause-after : goal.least_after-requires-clause-after
least_after-requires-clause-after c =
    let end_is : c.round_up-begun.result * c.args.seen.now.own.period ≡ up c.args.first (view_in c.args.seen.now).period * (view_in c.args.seen.now).period = ap (λ (q : ℕ). q * c.args.seen.now.own.period) c.round_up-begun.ensures in
    let asked_is : c.round_up-begun.result * get_or c.args.seen.now.asking.loads.costs.now c.args.seen.now.own.place 0 ≡ up c.args.first (view_in c.args.seen.now).period * cost (view_in c.args.seen.now) = ap₂ ◌*◌ c.round_up-begun.ensures c.args.seen.now.sound.own_cost in
    let more_is : c.round_up-begun.result * get_or c.args.seen.now.asking.loads.costs.now c.args.seen.now.own.place 0 - c.args.seen.now.own.budget ≡ up c.args.first (view_in c.args.seen.now).period * cost (view_in c.args.seen.now) - (view_in c.args.seen.now).budget = ap (λ (x : ℕ). x - c.args.seen.now.own.budget) asked_is in
    rw (end_is, more_is) (active_after _ c.args.seen.now.sound c.requires.first_end c.args.seen.now.free (c.active_start-start.ensures _))

pub returns : goal.returns
returns c =
    let asked_is : c.round_up-begun.result * get_or c.args.seen.now.asking.loads.costs.now c.args.seen.now.own.place 0 ≡ up c.args.first (view_in c.args.seen.now).period * cost (view_in c.args.seen.now) = ap₂ ◌*◌ c.round_up-begun.ensures c.args.seen.now.sound.own_cost in
    let more_is : c.round_up-begun.result * get_or c.args.seen.now.asking.loads.costs.now c.args.seen.now.own.place 0 - c.args.seen.now.own.budget ≡ up c.args.first (view_in c.args.seen.now).period * cost (view_in c.args.seen.now) - (view_in c.args.seen.now).budget = ap (λ (x : ℕ). x - c.args.seen.now.own.budget) asked_is in
    active_answer _ c.args.seen.now.sound _ (rw (more_is, blocking_left _ c.args.seen.now.sound c.requires.first_end) at c.least_after.ensures.found)
