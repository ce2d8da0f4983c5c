-- `ends::ahead_of_job` meets its contract: the jobs before job k take less than the active period. Assumes nothing.
use Prim.Native.Nat.{◌+◌}
use native.Mathlib.Omega.{arith}
use mathlib.Core.Path.{ap₂, ◌∙◌}
use Rattle.job.proofs.ActiveLaws.{active_within}
use Rattle.job.proofs.LentLaws.{lent_sound, ahead_lent, jobs_before}
use Rattle.ends.proofs.ahead_of_job.Goals as goal

pub overflow_mul-before : goal.overflow_mul-before
overflow_mul-before c =
    omega (arith, jobs_before c.args.known.now.shown.n c.args.known.now.shown.m c.args.known.now.shown.lines.now c.args.known.now.common.now c.args.known.now.shown.sound c.args.known.now.common_value c.args.s c.requires.s_lt_n c.requires.counted, active_within _ (lent_sound c.args.known.now.shown.n c.args.known.now.shown.m c.args.known.now.shown.lines.now c.args.known.now.common.now c.args.known.now.shown.sound c.args.known.now.common_value c.args.s c.requires.s_lt_n) c.requires.counted.is_active)

pub returns : goal.returns
returns c =
    ap₂ ◌+◌ (ap₂ ◌+◌ c.from.ensures c.from-2.ensures) c.from-3.ensures ∙
    ahead_lent c.args.known.now.shown.n c.args.known.now.shown.m c.args.known.now.shown.lines.now c.args.known.now.common.now c.args.known.now.shown.sound c.args.known.now.common_value c.args.s c.requires.s_lt_n c.args.k c.blocking_in.ensures c.budget.ensures
