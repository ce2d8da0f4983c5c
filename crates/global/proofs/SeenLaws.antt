-- What the code lends for one subsystem is its view of the interfaces, with the resources that lead. Assumes nothing.
use Prim.Native.Nat.{ℕ, ◌≤◌, ◌<◌}
use native.Mathlib.Omega.{arith}
use mathlib.Core.Path.{◌≡◌, sym, ap, ap₂, ◌∙◌}
use mathlib.Core.List.{List}
use mathlib.Core.Option.{Option}
use lib.ListN.{length, get_or, take}
use Rattle.lists.specs.Range.{up_to, padded}
use Rattle.lists.proofs.First.{first_such_ext}
use Rattle.lists.proofs.UpTo.{length_up_to, get_d_up_to, up_to_ext}
use Rattle.table.specs.Limits.{most}
use Rattle.outer.specs.Interfaces.{InterfacesM, period_at, budget_at, held_at, interfaces_in}
use Rattle.outer.specs.Parts.{count, periods, costs, period_of, budget_of}
use Rattle.outer.specs.Blocking.{outer_ceiling, blocking}
use Rattle.outer.specs.Common.{Lent}
use Rattle.outer.specs.Leading.{beats, beaten_by, unbeaten, led, ceiling_at}
use Rattle.outer.specs.Sound.{Sound}
use Rattle.outer.proofs.Slots.{few_of, few_resources_of, count_of, resources_of, period_of_slot, budget_of_slot, holding_of_slot}
use Rattle.outer.proofs.SharedLaws.{long_enough}
use Rattle.outer.proofs.CommonLaws.{take_padded}
use Rattle.row.specs.declared.Row.{Row}
use Rattle.job.specs.declared.Own.{Own}
use Rattle.job.specs.View.{View, view_of, resources, held, ceiling}
use Rattle.job.specs.Ends.{active_period}
use Rattle.row.specs.Row.{row_for, row_of}
use Rattle.job.specs.Computed.{seen_by}
use Rattle.job.specs.Sound.{SoundView}
use Rattle.job.proofs.ViewLaws.{view_sound, resources_seen, held_seen, ceiling_seen}
use Rattle.row.proofs.LedLaws.{led_view, led_sound, row_led}

-- Which resources lead depends on the resources in use alone.
led_ext : (h h2 c c2 : ℕ → ℕ) (m l : ℕ) → l < m → ((j : ℕ) → j < m → h j ≡ h2 j) → ((j : ℕ) → j < m → c j ≡ c2 j) → led h c m l ≡ led h2 c2 m l
unfolding led beaten_by
led_ext h h2 c c2 m l u eh ec =
    ap₂ (λ (x : ℕ) (o : Option ℕ). unbeaten x o) (eh l u)
    (first_such_ext (beaten_by h c l) (beaten_by h2 c2 l) m 0
    (λ j a b.
    let w : j < m = omega arith in
    ap₂ (λ (p q : ℕ). beats p q j (c l) (h l) l) (ec j w) (eh j w) ∙
    ap₂ (λ (p q : ℕ). beats (c2 j) (h2 j) j p q l) (ec l u) (eh l u)))

module _ (n m : ℕ) (lines : List (List ℕ)) (s : ℕ) (h : s < n) where
  -- What is held of the resources that lead, as the code computes it from the line.
  pub led_of_slot : (ceilings : List ℕ) → ceilings ≡ up_to (outer_ceiling (interfaces_in n m lines)) m → (l : ℕ) → l < m → led (held_at lines s) (ceiling_at ceilings) (length ceilings) l ≡ led (held (view_of (interfaces_in n m lines) s)) (ceiling (view_of (interfaces_in n m lines) s)) (resources (view_of (interfaces_in n m lines) s)) l
  unfolding ceiling_at interfaces_in
  led_of_slot ceilings e l u =
      ap (λ (k : ℕ). led (held_at lines s) (ceiling_at ceilings) k l) (ap length e ∙ length_up_to _ _) ∙
      led_ext (held_at lines s) (held (view_of (interfaces_in n m lines) s)) (ceiling_at ceilings) (ceiling (view_of (interfaces_in n m lines) s)) m l u
      (λ j w. sym (held_seen (interfaces_in n m lines) s j w ∙ holding_of_slot n m lines s j h w))
      (λ j w.
      ap (λ (cs : List ℕ). get_or cs j 0) e ∙ get_d_up_to (outer_ceiling (interfaces_in n m lines)) m j 0 w ∙
      sym (ceiling_seen (interfaces_in n m lines) s j w)) ∙
      ap (λ (k : ℕ). led (held (view_of (interfaces_in n m lines) s)) (ceiling (view_of (interfaces_in n m lines) s)) k l) (sym (resources_seen (interfaces_in n m lines) s))

  -- The same for all resources, cut out of the array.
  pub led_part : (ceilings : List ℕ) → ceilings ≡ up_to (outer_ceiling (interfaces_in n m lines)) m → {a : List ℕ} → a ≡ padded (led (held_at lines s) (ceiling_at ceilings) (length ceilings)) 0 most (length ceilings) → take m a ≡ (led_view (view_of (interfaces_in n m lines) s)).holdings
  led_part ceilings e {a} q =
      let size : length ceilings ≡ m = ap length e ∙ length_up_to _ _ in
      let r : resources (view_of (interfaces_in n m lines) s) ≡ m = resources_seen (interfaces_in n m lines) s ∙ resources_of n m lines in
      ap₂ take (sym size) q ∙ take_padded (led (held_at lines s) (ceiling_at ceilings) (length ceilings)) (length ceilings) ∙
      ap (up_to (led (held_at lines s) (ceiling_at ceilings) (length ceilings))) size ∙
      up_to_ext (led (held_at lines s) (ceiling_at ceilings) (length ceilings)) (led (held (view_of (interfaces_in n m lines) s)) (ceiling (view_of (interfaces_in n m lines) s)) (resources (view_of (interfaces_in n m lines) s))) m (led_of_slot ceilings e) ∙
      ap (up_to (led (held (view_of (interfaces_in n m lines) s)) (ceiling (view_of (interfaces_in n m lines) s)) (resources (view_of (interfaces_in n m lines) s)))) (sym r)

  -- Its own numbers.
  pub own_is : {p q b f : ℕ} → p ≡ period_at lines s → q ≡ budget_at lines s → b ≡ blocking (interfaces_in n m lines) s → ◌≡◌ {A = Own} (record { place = s; period = p; budget = q; blocking = b; failing = f }) (record { place = s; period = period_of (interfaces_in n m lines) s; budget = budget_of (interfaces_in n m lines) s; blocking = blocking (interfaces_in n m lines) s; failing = f })
  own_is {f = f} ep eq eb =
      λ i.
      record {
        place = s;
        period = (ep ∙ sym (period_of_slot n m lines s h)) i;
        budget = (eq ∙ sym (budget_of_slot n m lines s h)) i;
        blocking = eb i;
        failing = f;
      }

-- All of it together.
module _ (g : InterfacesM) (sound : Sound g) (s : ℕ) (h : s < count g) {p c x r : List ℕ} {own : Own} {f : ℕ} (ep : p ≡ periods g) (ec : c ≡ costs g) (ex : x ≡ (led_view (view_of g s)).holdings) (er : r ≡ up_to (outer_ceiling g) g.resources) (eo : own ≡ record { place = s; period = period_of g s; budget = budget_of g s; blocking = blocking g s; failing = f }) where
  seen_is : seen_by p c x r own ≡ led_view (view_of g s)
  unfolding view_of
  seen_is = λ i. seen_by (ep i) (ec i) (ex i) (er i) (eo i)

  pub seen_sound : SoundView (seen_by p c x r own)
  seen_sound = rw seen_is (led_sound (view_of g s) (view_sound g sound s h))

  pub seen_row : (failing : ℕ) {w : Row} → w ≡ row_for (seen_by p c x r own) failing (active_period (seen_by p c x r own)) → w ≡ row_of g s failing
  unfolding row_of
  seen_row failing e =
      e ∙ ap (λ (v : View). row_for v failing (active_period v)) seen_is ∙
      row_led (view_of g s) (view_sound g sound s h) failing

-- Its own numbers, as one value.
abbrev own_of : (s period budget blocked failing : ℕ) → Own
own_of s period budget blocked failing = record { place = s; period = period; budget = budget; blocking = blocked; failing = failing }

-- The same of what a row is lent: what the interfaces show, the lists that all rows share, and what is held of the resources that lead.
module _ (n m : ℕ) (lines : List (List ℕ)) (sound : Sound (interfaces_in n m lines)) (s : ℕ) (h : s < n) {p c r : List ℕ} (lent : Lent (interfaces_in n m lines) p c r) where
  pub in_lines : s < most
  in_lines = omega (arith, few_of n m lines sound, h)

  in_use : s < count (interfaces_in n m lines)
  in_use = rw (count_of n m lines) h

  ceilings_used : r ≡ up_to (outer_ceiling (interfaces_in n m lines)) m
  ceilings_used = lent.ceilings_are ∙ ap (up_to (outer_ceiling (interfaces_in n m lines))) (resources_of n m lines)

  ceilings_count : length r ≡ m
  ceilings_count = ap length ceilings_used ∙ length_up_to _ _

  pub few_ceilings : length r ≤ most
  few_ceilings = omega (arith, ceilings_count, few_resources_of n m lines sound)

  module _ {a : List ℕ} (q : a ≡ padded (led (held_at lines s) (ceiling_at r) (length r)) 0 most (length r)) where
    module _ (f : ℕ) {period budget blocked : ℕ} (ep : period ≡ period_at lines s) (eq : budget ≡ budget_at lines s) (eb : blocked ≡ blocking (interfaces_in n m lines) s) where
      pub lent_sound : SoundView (seen_by p c (take m a) r (own_of s period budget blocked f))
      lent_sound =
          seen_sound (interfaces_in n m lines) sound s in_use lent.periods_are lent.costs_are (led_part n m lines s h r ceilings_used q) lent.ceilings_are
          (own_is n m lines s h {f = f} ep eq eb)

      pub lent_row : {w : Row} → w ≡ row_for (seen_by p c (take m a) r (own_of s period budget blocked f)) f (active_period (seen_by p c (take m a) r (own_of s period budget blocked f))) → w ≡ row_of (interfaces_in n m lines) s f
      lent_row e =
          seen_row (interfaces_in n m lines) sound s in_use lent.periods_are lent.costs_are (led_part n m lines s h r ceilings_used q) lent.ceilings_are
          (own_is n m lines s h {f = f} ep eq eb) f e
