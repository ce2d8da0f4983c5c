-- The view that a subsystem has of sound interfaces is sound. Assumes nothing.
use Prim.Native.Nat.{ℕ, ◌+◌, ◌≤◌, ◌<◌}
use native.Mathlib.Omega.{arith}
use mathlib.Core.Path.{◌≡◌, sym, ap, ◌∙◌}
use Rattle.lists.specs.Range.{largest_to}
use Rattle.lists.proofs.Over.{largest_to_ext, largest_at_most}
use Rattle.lists.proofs.UpTo.{length_up_to, get_d_up_to}
use Rattle.least.specs.Search.{Loads}
use Rattle.search.specs.After.{Fit}
use Rattle.table.specs.Limits.{largest}
use Rattle.outer.specs.Interfaces.{InterfacesM}
use Rattle.outer.specs.Parts.{count, period_of, budget_of, holding_of, holding, cost_of, periods, costs}
use Rattle.outer.specs.Blocking.{outer_ceiling, blocking_by, blocking}
use Rattle.outer.specs.Sound.{Sound}
use Rattle.outer.proofs.CeilingLaws.{ceiling_at_most}
use Rattle.outer.proofs.BlockingLaws.{blocking_by_at_most}
use Rattle.job.specs.View.{view_of, resources, held, ceiling, overrun, cost}
use Rattle.job.specs.Sound.{SoundView}

module _ (g : InterfacesM) (s : ℕ) where
  pub resources_seen : resources (view_of g s) ≡ g.resources
  unfolding view_of
  resources_seen = length_up_to (holding_of g s) g.resources

  pub held_seen : (l : ℕ) → l < g.resources → held (view_of g s) l ≡ holding_of g s l
  unfolding view_of held
  held_seen l h = get_d_up_to (holding_of g s) g.resources l 0 h

  pub ceiling_seen : (l : ℕ) → l < g.resources → ceiling (view_of g s) l ≡ outer_ceiling g l
  unfolding view_of ceiling
  ceiling_seen l h = get_d_up_to (outer_ceiling g) g.resources l 0 h

  -- X(s) seen is X(s).
  pub overrun_seen : overrun (view_of g s) ≡ holding g s
  unfolding overrun holding
  overrun_seen =
      ap (largest_to (held (view_of g s))) resources_seen ∙
      largest_to_ext (held (view_of g s)) (holding_of g s) g.resources held_seen

  pub cost_seen : cost (view_of g s) ≡ cost_of g s
  unfolding cost cost_of view_of
  cost_seen = ap (λ (x : ℕ). budget_of g s + x) overrun_seen

module _ (g : InterfacesM) (sound : Sound g) where
  -- What blocks is at most a period.
  pub blocking_small : (s : ℕ) → blocking g s ≤ largest
  unfolding blocking
  blocking_small s =
      largest_at_most (blocking_by g s) (count g) largest
      (λ t h. omega (arith, blocking_by_at_most g s t, sound.fits t h, sound.period_small t h))

  cost_at_most : (t : ℕ) → t < count g → cost_of g t ≤ period_of g t
  unfolding cost_of
  cost_at_most t h = sound.fits t h

  cost_pos : (t : ℕ) → t < count g → 1 ≤ cost_of g t
  unfolding cost_of
  cost_pos t h = omega (arith, sound.budget_pos t h)

  module _ (s : ℕ) (h : s < count g) where
    loads_seen : Loads (periods g) (costs g) (s + 1)
    unfolding periods costs
    loads_seen =
        record {
          few = omega (arith, sound.few_subsystems);
          with_period = rw length_up_to (omega arith);
          with_cost = rw length_up_to (omega arith);
          period_pos =
              λ t u.
              rw (get_d_up_to (period_of g) (count g) t 0 (omega arith))
              (omega (arith, cost_pos t (omega arith), cost_at_most t (omega arith)));
          cost_small =
              λ t u.
              rw (get_d_up_to (cost_of g) (count g) t 0 (omega arith))
              (omega (arith, cost_at_most t (omega arith), sound.period_small t (omega arith)));
        }

    fit_seen : Fit (periods g) (costs g) (s + 1)
    unfolding periods costs
    fit_seen =
        record {
          loads = loads_seen;
          cost_pos = λ t u. rw (get_d_up_to (cost_of g) (count g) t 0 (omega arith)) (cost_pos t (omega arith));
          cost_fits =
              λ t u.
              rw (get_d_up_to (cost_of g) (count g) t 0 (omega arith), get_d_up_to (period_of g) (count g) t 0 (omega arith))
              (cost_at_most t (omega arith));
          period_small =
              λ t u. rw (get_d_up_to (period_of g) (count g) t 0 (omega arith)) (omega (arith, sound.period_small t (omega arith)));
        }

    pub view_sound : SoundView (view_of g s)
    unfolding view_of periods costs
    view_sound =
        record {
          few = omega (arith, sound.few_subsystems);
          fit = fit_seen;
          own_period = get_d_up_to (period_of g) (count g) s 0 h;
          own_cost = get_d_up_to (cost_of g) (count g) s 0 h ∙ sym (cost_seen g s);
          budget_pos = sound.budget_pos s h;
          fits = omega (arith, cost_seen g s, cost_at_most s h);
          period_small = omega (arith, sound.period_small s h);
          blocking_small = omega (arith, blocking_small s);
          few_resources = omega (arith, resources_seen g s, sound.few_resources);
          same_resources = length_up_to (outer_ceiling g) g.resources ∙ sym (resources_seen g s);
          ceiling_reaches =
              λ l u k.
              let w : l < g.resources = omega (arith, resources_seen g s) in
              omega (arith, ceiling_seen g s l w, ceiling_at_most g l s h (omega (arith, held_seen g s l w)));
        }
