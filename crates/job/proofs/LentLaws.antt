-- What the code lends of interfaces and of what the rows share is what one subsystem sees. Assumes nothing.
use Prim.Native.Nat.{ℕ, ◌+◌, ◌-◌, ◌*◌, ◌≤◌, ◌<◌}
use native.Mathlib.Omega.{arith}
use mathlib.Core.Path.{◌≡◌, sym, ap, ap₂, ◌∙◌}
use mathlib.Core.List.{List}
use lib.ListN.{length, get_or, take}
use Rattle.lists.specs.Range.{up_to}
use Rattle.lists.proofs.UpTo.{get_d_padded, get_d_up_to}
use Rattle.least.specs.Search.{Loads}
use Rattle.search.specs.After.{Frees}
use Rattle.table.specs.Limits.{most}
use Rattle.outer.specs.declared.ceilings.Common.{Common}
use Rattle.outer.specs.Interfaces.{budget_at, held_at, interfaces_in}
use Rattle.outer.specs.Parts.{count, periods, costs, period_of, cost_of, free_of}
use Rattle.outer.specs.Blocking.{outer_ceiling, blocking}
use Rattle.job.specs.View.{view_of, resources, held, ceiling, cost}
use Rattle.job.specs.Ends.{ahead}
use Rattle.outer.specs.Common.{common_of, Lent}
use Rattle.outer.specs.Sound.{Sound}
use Rattle.job.specs.Sound.{SoundView, Counted}
use Rattle.outer.proofs.Slots.{some_of, few_of, few_resources_of, count_of, resources_of, budget_of_slot, holding_of_slot}
use Rattle.job.proofs.ViewLaws.{view_sound, resources_seen, held_seen, ceiling_seen, cost_seen}
use Rattle.job.proofs.BudgetEndLaws.{jobs_before_within}
use Rattle.outer.proofs.SharedLaws.{long_enough, used_length, used_part, shared_periods, shared_costs, shared_frees, shared_ceilings, shared_blockings}

-- Sound interfaces with what their rows share.
module _ (n m : ℕ) (lines : List (List ℕ)) (c : Common) (sound : Sound (interfaces_in n m lines)) (e : c ≡ common_of (interfaces_in n m lines)) where
  pub periods_long : n ≤ length c.periods
  periods_long = long_enough _ _ (few_of n m lines sound) (shared_periods n m lines c e)

  pub costs_long : n ≤ length c.costs
  costs_long = long_enough _ _ (few_of n m lines sound) (shared_costs n m lines c e)

  pub frees_long : n ≤ length c.frees
  frees_long = long_enough _ _ (few_of n m lines sound) (shared_frees n m lines c e)

  pub ceilings_long : m ≤ length c.ceilings
  ceilings_long = long_enough _ _ (few_resources_of n m lines sound) (shared_ceilings n m lines c e)

  pub ceilings_used : take m c.ceilings ≡ up_to (outer_ceiling (interfaces_in n m lines)) m
  ceilings_used = used_part _ _ (few_resources_of n m lines sound) (shared_ceilings n m lines c e)

  pub costs_used : take n c.costs ≡ up_to (cost_of (interfaces_in n m lines)) n
  costs_used = used_part _ _ (few_of n m lines sound) (shared_costs n m lines c e)

  -- What a row is lent.
  pub parts_lent : Lent (interfaces_in n m lines) (take n c.periods) (take n c.costs) (take m c.ceilings)
  unfolding periods costs interfaces_in
  parts_lent =
      record {
        periods_are =
            used_part _ _ (few_of n m lines sound) (shared_periods n m lines c e) ∙ ap (up_to (period_of (interfaces_in n m lines))) (sym (count_of n m lines));
        costs_are = costs_used ∙ ap (up_to (cost_of (interfaces_in n m lines))) (sym (count_of n m lines));
        ceilings_are = ceilings_used;
      }

  module _ (s : ℕ) where
    pub periods_lent : take n c.periods ≡ (view_of (interfaces_in n m lines) s).periods
    unfolding view_of periods
    periods_lent =
        used_part _ _ (few_of n m lines sound) (shared_periods n m lines c e) ∙ ap (up_to (period_of (interfaces_in n m lines))) (sym (count_of n m lines))

    pub costs_lent : take n c.costs ≡ (view_of (interfaces_in n m lines) s).costs
    unfolding view_of costs
    costs_lent =
        costs_used ∙ ap (up_to (cost_of (interfaces_in n m lines))) (sym (count_of n m lines))

    -- RC(l) in its slot.
    pub ceiling_lent : (l : ℕ) → l < m → get_or c.ceilings l 0 ≡ ceiling (view_of (interfaces_in n m lines) s) l
    unfolding interfaces_in
    ceiling_lent l h =
        ap (λ (r : _). get_or r l 0) (shared_ceilings n m lines c e) ∙
        get_d_padded (outer_ceiling (interfaces_in n m lines)) 0 0 most m l h ∙ sym (ceiling_seen (interfaces_in n m lines) s l h)

    module _ (h : s < n) where
      pub in_use : s < count (interfaces_in n m lines)
      in_use = rw (count_of n m lines) h

      -- What it sees is sound.
      pub lent_sound : SoundView (view_of (interfaces_in n m lines) s)
      lent_sound = view_sound (interfaces_in n m lines) sound s in_use

      -- P(s) and Q(s) + X(s) in their slots.
      -- The loads up to the last subsystem are all that are lent.
      loads_lent : s + 1 ≡ n → Loads (take n c.periods) (take n c.costs) n
      unfolding view_of
      loads_lent q = rw (periods_lent, costs_lent) (rw q at lent_sound.fit.loads)

      -- What the loads up to s leave free of their periods.
      pub frees_lent : Frees (take n c.periods) (take n c.costs) (take n c.frees) (s + 1)
      frees_lent =
          record {
            with_free = omega (arith, used_length n c.frees frees_long);
            is_free = λ t u. rw (used_part _ _ (few_of n m lines sound) (shared_periods n m lines c e), costs_used, used_part _ _ (few_of n m lines sound) (shared_frees n m lines c e), get_d_up_to (period_of (interfaces_in n m lines)) n t 0 (omega arith), get_d_up_to (cost_of (interfaces_in n m lines)) n t 0 (omega arith), get_d_up_to (free_of (interfaces_in n m lines)) n t 0 (omega arith)) (parts t (omega arith));
          }
        where
          parts : (t : ℕ) → t < n → free_of (interfaces_in n m lines) t + cost_of (interfaces_in n m lines) t ≡ period_of (interfaces_in n m lines) t
          parts t u = unfold free_of cost_of in omega (arith, sound.fits t (rw (count_of n m lines) u))

      pub period_lent : get_or c.periods s 0 ≡ (view_of (interfaces_in n m lines) s).period
      unfolding view_of
      period_lent =
          ap (λ (r : _). get_or r s 0) (shared_periods n m lines c e) ∙ get_d_padded (period_of (interfaces_in n m lines)) 0 0 most n s h

      pub cost_lent : get_or c.costs s 0 ≡ cost (view_of (interfaces_in n m lines) s)
      cost_lent =
          ap (λ (r : _). get_or r s 0) (shared_costs n m lines c e) ∙ get_d_padded (cost_of (interfaces_in n m lines)) 0 0 most n s h ∙
          sym (cost_seen (interfaces_in n m lines) s)

      -- B(s) in its slot.
      pub blocking_lent : get_or c.blockings s 0 ≡ blocking (interfaces_in n m lines) s
      blocking_lent =
          ap (λ (r : _). get_or r s 0) (shared_blockings n m lines c e) ∙ get_d_padded (blocking (interfaces_in n m lines)) 0 0 most n s h

      -- B(s) + k × (Q + X) + Q as the code adds it up.
      pub ahead_lent : (k : ℕ) {b q : ℕ} → b ≡ blocking (interfaces_in n m lines) s → q ≡ budget_at lines s → b + k * get_or c.costs s 0 + q ≡ ahead (view_of (interfaces_in n m lines) s) k
      unfolding ahead view_of
      ahead_lent k eb eq =
          ap₂ ◌+◌ (ap₂ (λ (x y : ℕ). x + k * y) eb cost_lent) (eq ∙ sym (budget_of_slot n m lines s h))

      -- The jobs before job k take less than the active period.
      pub jobs_before : {k : ℕ} (ct : Counted (view_of (interfaces_in n m lines) s) k) → k * get_or c.costs s 0 < ct.active
      jobs_before {k} ct =
          let here = cost_lent ∙ sym lent_sound.own_cost in
          omega (arith, ap (λ (x : ℕ). k * x) here, jobs_before_within (view_of (interfaces_in n m lines) s) lent_sound ct)

-- X(s, l) in its slot.
-- All loads that are lent.
pub all_lent : (n m : ℕ) (lines : List (List ℕ)) (c : Common) → Sound (interfaces_in n m lines) → c ≡ common_of (interfaces_in n m lines) → Loads (take n c.periods) (take n c.costs) n
all_lent n m lines c sound e =
    let some : 1 ≤ n = some_of n m lines sound in
    loads_lent n m lines c sound e (n - 1) (omega arith) (omega arith)

module _ (n m : ℕ) (lines : List (List ℕ)) (s l : ℕ) (h : s < n) (k : l < m) where
  pub held_lent : held_at lines s l ≡ held (view_of (interfaces_in n m lines) s) l
  unfolding interfaces_in
  held_lent = sym (held_seen (interfaces_in n m lines) s l k ∙ holding_of_slot n m lines s l h k)

  pub resource_seen : l < resources (view_of (interfaces_in n m lines) s)
  resource_seen = rw (resources_seen (interfaces_in n m lines) s ∙ resources_of n m lines) k
