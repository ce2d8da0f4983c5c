-- `asked::end_of` meets its contract: each test settles a case of the definition. Assumes nothing.
use Prim.Native.Nat.{◌-◌, ◌≤◌, ◌<◌}
use native.Mathlib.Nat.{pos_of_ne-zero}
use native.Mathlib.Omega.{arith}
use mathlib.Core.Path.{◌≡◌, sym, ◌∙◌}
use Rattle.table.specs.Limits.{most}
use Rattle.outer.specs.Interfaces.{held_at, interfaces_in}
use Rattle.outer.proofs.Slots.{few_of, few_resources_of, resources_of}
use Rattle.job.specs.View.{view_of, resources, held}
use Rattle.job.proofs.ViewLaws.{resources_seen}
use Rattle.job.proofs.LentLaws.{held_lent}
use Rattle.job.proofs.EndsLaws.{counted_below}
use Rattle.asked.proofs.JobsLaws.{held_past, no_job, ends_with_budget, never_held, ends_with_resource}
use Rattle.asked.proofs.end_of.Goals.{then-known-l-via-then-known-l, then-known-l-via-else-known-l+then-held-eq0}
use Rattle.asked.proofs.end_of.Goals as goal

pub returns-then-jobs_of-k : goal.returns-then-jobs_of-k
returns-then-jobs_of-k c =
    no_job _ c.args.k c.args.l c.jobs_of.ensures (omega (arith, c.if-jobs_of-k.true))

pub budget_end-requires : goal.budget_end-requires
budget_end-requires c =
    record { s_lt_n = c.requires; counted = counted_below _ (omega (arith, c.jobs_of.ensures, c.if-jobs_of-k.false)) }

pub returns-then-l-eq0 : goal.returns-then-l-eq0
returns-then-l-eq0 c =
    ends_with_budget _ c.args.k c.jobs_of.ensures c.if-jobs_of-k.false c.if-l-eq0.true c.budget_end.ensures

pub returns-then-known-l : goal.returns-then-known-l
returns-then-known-l c =
    let listed : 1 ≤ c.args.l = pos_of_ne-zero c.if-l-eq0.false in
    let seen : resources (view_of (interfaces_in c.args.known.now.shown.n c.args.known.now.shown.m c.args.known.now.shown.lines.now) c.args.s) ≡ c.args.known.now.shown.m = resources_seen (interfaces_in c.args.known.now.shown.n c.args.known.now.shown.m c.args.known.now.shown.lines.now) c.args.s ∙ resources_of c.args.known.now.shown.n c.args.known.now.shown.m c.args.known.now.shown.lines.now in
    never_held _ c.args.k c.jobs_of.ensures c.if-jobs_of-k.false c.args.l listed
    (elim c.then-known-l.branch [
      | then-known-l-via-then-known-l w ↦ held_past _ _ (omega (arith, seen, w.if-known-l.true))
      | then-known-l-via-else-known-l+then-held-eq0 w ↦ let slot_held : held_at c.args.known.now.shown.lines.now c.args.s (c.args.l - 1) ≡ held (view_of (interfaces_in c.args.known.now.shown.n c.args.known.now.shown.m c.args.known.now.shown.lines.now) c.args.s) (c.args.l - 1) = held_lent c.args.known.now.shown.n c.args.known.now.shown.m c.args.known.now.shown.lines.now c.args.s (c.args.l - 1) c.requires (omega (arith, listed, w.if-known-l.false)) in
          sym slot_held ∙ sym w.held.ensures ∙ w.if-held-eq0.true
    ])

pub held-requires : goal.held-requires
held-requires c =
    let few : (c.args.known.now.shown.n ≤ most) × (c.args.known.now.shown.m ≤ most) = (few_of _ _ _ c.args.known.now.shown.sound, few_resources_of _ _ _ c.args.known.now.shown.sound) in
    let listed : 1 ≤ c.args.l = pos_of_ne-zero c.if-l-eq0.false in
    (omega (arith, (few).0, c.requires), omega (arith, (few).1, listed, c.if-known-l.false))

pub job_end-requires : goal.job_end-requires
job_end-requires c =
    let listed : 1 ≤ c.args.l = pos_of_ne-zero c.if-l-eq0.false in
    let slot_held : held_at c.args.known.now.shown.lines.now c.args.s (c.args.l - 1) ≡ held (view_of (interfaces_in c.args.known.now.shown.n c.args.known.now.shown.m c.args.known.now.shown.lines.now) c.args.s) (c.args.l - 1) = held_lent c.args.known.now.shown.n c.args.known.now.shown.m c.args.known.now.shown.lines.now c.args.s (c.args.l - 1) c.requires (omega (arith, listed, c.if-known-l.false)) in
    let is_held : 0 < held (view_of (interfaces_in c.args.known.now.shown.n c.args.known.now.shown.m c.args.known.now.shown.lines.now) c.args.s) (c.args.l - 1) = omega (arith, slot_held, c.held.ensures, pos_of_ne-zero c.if-held-eq0.false) in
    record { s_lt_n = c.requires; counted = counted_below _ (omega (arith, c.jobs_of.ensures, c.if-jobs_of-k.false)); l_lt_m = (omega (arith, listed, c.if-known-l.false), is_held) }

pub returns : goal.returns
returns c =
    let listed : 1 ≤ c.args.l = pos_of_ne-zero c.if-l-eq0.false in
    let slot_held : held_at c.args.known.now.shown.lines.now c.args.s (c.args.l - 1) ≡ held (view_of (interfaces_in c.args.known.now.shown.n c.args.known.now.shown.m c.args.known.now.shown.lines.now) c.args.s) (c.args.l - 1) = held_lent c.args.known.now.shown.n c.args.known.now.shown.m c.args.known.now.shown.lines.now c.args.s (c.args.l - 1) c.requires (omega (arith, listed, c.if-known-l.false)) in
    let is_held : 0 < held (view_of (interfaces_in c.args.known.now.shown.n c.args.known.now.shown.m c.args.known.now.shown.lines.now) c.args.s) (c.args.l - 1) = omega (arith, slot_held, c.held.ensures, pos_of_ne-zero c.if-held-eq0.false) in
    ends_with_resource _ c.args.k c.jobs_of.ensures c.if-jobs_of-k.false c.args.l (listed) (is_held) c.job_end.ensures
