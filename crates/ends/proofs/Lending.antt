-- What the functions here lend of interfaces and of what their rows share, for the subsystem with index s: laws of crate job, put
-- together once. Assumes nothing.
use Prim.Native.Nat.{ℕ, ◌+◌, ◌<◌}
use native.Mathlib.Omega.{arith}
use mathlib.Core.Path.{◌≡◌}
use mathlib.Core.List.{List}
use lib.ListN.{take}
use Rattle.search.specs.After.{Fit, Frees}
use Rattle.table.specs.Limits.{most}
use Rattle.outer.specs.declared.ceilings.Common.{Common}
use Rattle.outer.specs.Interfaces.{interfaces_in}
use Rattle.outer.specs.Common.{common_of}
use Rattle.outer.specs.Sound.{Sound}
use Rattle.outer.proofs.Slots.{few_of}
use Rattle.job.specs.View.{view_of}
use Rattle.job.specs.Sound.{SoundView}
use Rattle.job.proofs.LentLaws as lent

pub record Lending (n m : ℕ) (lines : List (List ℕ)) (s : ℕ) (periods costs frees : List ℕ) : Type 0 where
  pub listed : s < most
  pub seen : SoundView (view_of (interfaces_in n m lines) s)
  pub periods_lent : periods ≡ (view_of (interfaces_in n m lines) s).periods
  pub costs_lent : costs ≡ (view_of (interfaces_in n m lines) s).costs
  pub frees_lent : Frees periods costs frees (s + 1)
  pub fits : Fit periods costs (s + 1)

taken : (n m : ℕ) (lines : List (List ℕ)) (common : Common) (s : ℕ) → Sound (interfaces_in n m lines) → common ≡ common_of (interfaces_in n m lines) → s < n → Lending n m lines s (take n common.periods) (take n common.costs) (take n common.frees)
unfolding view_of
taken n m lines common s sound e h =
    let seen = lent.lent_sound n m lines common sound e s h in
    let periods_lent = lent.periods_lent n m lines common sound e s in
    let costs_lent = lent.costs_lent n m lines common sound e s in
    record {
      listed = omega (arith, few_of n m lines sound, h);
      seen = seen;
      periods_lent = periods_lent;
      costs_lent = costs_lent;
      frees_lent = lent.frees_lent n m lines common sound e s h;
      fits = rw (periods_lent, costs_lent) seen.fit;
    }

pub lending : (n m : ℕ) (lines : List (List ℕ)) (common : Common) (s : ℕ) → Sound (interfaces_in n m lines) → common ≡ common_of (interfaces_in n m lines) → s < n → {periods costs frees : List ℕ} → periods ≡ take n common.periods → costs ≡ take n common.costs → frees ≡ take n common.frees → Lending n m lines s periods costs frees
lending n m lines common s sound e h p q r = rw (p, q, r) (taken n m lines common s sound e h)
