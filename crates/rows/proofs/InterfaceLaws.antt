-- Laws of the interfaces of an admitted table: what each turn fills in. Assumes nothing.
use Prim.Native.Nat.{ℕ, ◌+◌, ◌≤◌, ◌<◌}
use native.Mathlib.Omega.{arith}
use mathlib.Core.Path.{◌≡◌, refl, sym, ap, ◌∙◌}
use mathlib.Core.List.{List, []}
use lib.ListN.{length, get_or, set, replicate, length-set}
use Rattle.lists.specs.Range.{padded}
use Rattle.lists.proofs.Over.{below_largest}
use Rattle.lists.proofs.UpTo.{get_d_padded}
use Rattle.lists.proofs.Filled.{Filled, filled_none, filled_at, filled_more, kept_before}
use Rattle.table.specs.Limits.{most, largest}
use Rattle.table.specs.Meaning.{SubsystemM, System}
use Rattle.table.specs.Parts.{subsystem_count}
use Rattle.table.specs.Grid.{period_in, budget_in, subsystem_in, block_in, system_in}
use Rattle.table.proofs.GridLaws.{count_of_block, count_of_grid, resources_of_grid, subsystem_of_grid}
use Rattle.holding.specs.Holding.{resource_holding, holding}
use Rattle.holding.specs.Slots.{Counted}
use Rattle.holding.specs.Held.{holdings_at, HeldIn}
use Rattle.holding.proofs.HoldingLaws.{held_of_block}
use Rattle.rules.specs.Admitted.{SoundSystem}
use Rattle.outer.specs.Interfaces.{period_at, budget_at, held_at, interface_at as line_at, interfaces_in}
use Rattle.outer.specs.Sound.{Sound}
use Rattle.outer.proofs.Slots.{interface_is, interfaces_are}
use Rattle.rows.specs.Interfaces.{interface_from, interface_at, interfaces_from}
use Rattle.rows.specs.Slots.{SoundSlot, Shows}
use Rattle.rows.proofs.SoundLaws.{interfaces_sound}

-- A subsystem of an admitted table has counts that rule 1 has passed.
pub slot_counted : (block : List (List ℕ)) (m : ℕ) → SoundSlot block m → Counted block m
slot_counted block m slot =
    record {
      some_task = omega (arith, slot.sound.tasks_least, count_of_block m block);
      tasks_most = omega (arith, slot.sound.tasks_most, count_of_block m block);
      resources_most = slot.resources_most;
    }

-- A holding time is below the period, and so below a million.
pub holding_small : (block : List (List ℕ)) (m : ℕ) → SoundSlot block m → (l : ℕ) → l < m → resource_holding (subsystem_in m block) l ≤ largest
unfolding holding
holding_small block m sound l h =
    omega (
      arith,
      below_largest (resource_holding (subsystem_in m block)) m l h,
      sound.sound.fits,
      sound.sound.period_most,
    )

-- X(s, l) as rule 5 has left it.
pub held_here : (u : SubsystemM) (m l : ℕ) (held : List ℕ) → held ≡ padded (resource_holding u) 0 most m → l < m → get_or held l 0 ≡ resource_holding u l
held_here u m l held e h = rw e (get_d_padded (resource_holding u) 0 0 most m l h)

------------------------------------------------------------------------
-- One line

abbrev HeldNumber : ℕ → List (List ℕ) → ℕ → ℕ → Type 0
HeldNumber m block l x = x ≡ resource_holding (subsystem_in m block) l

-- A line with P, Q and the first l holding times.
pub record LineTo (m : ℕ) (block : List (List ℕ)) (line : List ℕ) (l : ℕ) : Type 0 where
  pub wide : length line ≡ 2 + most
  pub period_is : get_or line 0 0 ≡ period_in block
  pub budget_is : get_or line 1 0 ≡ budget_in block
  pub held_are : Filled 0 (HeldNumber m block) 2 line l

pub line_begins : (m : ℕ) (block : List (List ℕ)) (p q : ℕ) → p ≡ period_in block → q ≡ budget_in block → LineTo m block (set (set (replicate (2 + most) 0) 0 p) 1 q) 0
line_begins m block p q e f = record { wide = refl; period_is = e; budget_is = f; held_are = filled_none 0 (HeldNumber m block) 2 _ }

pub line_more : (m : ℕ) (block : List (List ℕ)) (line : List ℕ) (l x : ℕ) → l < most → LineTo m block line l → x ≡ resource_holding (subsystem_in m block) l → LineTo m block (set line (l + 2) x) (l + 1)
line_more m block line l x h t e =
    record {
      wide = length-set line (l + 2) x ∙ t.wide;
      period_is = kept_before 0 line (l + 2) 0 x (omega arith) ∙ t.period_is;
      budget_is = kept_before 0 line (l + 2) 1 x (omega arith) ∙ t.budget_is;
      held_are = filled_more 0 (HeldNumber m block) 2 line l (l + 2) x refl (omega (arith, t.wide)) t.held_are e;
    }

pub line_shows : (m : ℕ) (block : List (List ℕ)) (line : List ℕ) (l : ℕ) → l ≡ m → LineTo m block line l → Shows m block line
line_shows m block line l e t =
    record {
      period_is = t.period_is;
      budget_is = t.budget_is;
      held_is = λ k h. filled_at 0 (HeldNumber m block) 2 line l k (k + 2) refl t.held_are (rw e h);
    }

------------------------------------------------------------------------
-- All lines

module _ (n m : ℕ) (grid : List (List (List ℕ))) where
  abbrev LineOfBlock : ℕ → List ℕ → Type 0
  LineOfBlock s line = Shows m (block_in grid s) line

  -- Lines of which the first s are the interfaces of the grid's subsystems.
  pub record LinesTo (lines : List (List ℕ)) (s : ℕ) : Type 0 where
    pub long : length lines ≡ most
    pub lines_are : Filled [] LineOfBlock 0 lines s

  pub lines_begin : (lines : List (List ℕ)) → length lines ≡ most → LinesTo lines 0
  lines_begin lines e = record { long = e; lines_are = filled_none [] LineOfBlock 0 lines }

  pub lines_more : (lines : List (List ℕ)) (s : ℕ) (line : List ℕ) → s < most → LinesTo lines s → Shows m (block_in grid s) line → LinesTo (set lines s line) (s + 1)
  lines_more lines s line h t e =
      record {
        long = length-set lines s line ∙ t.long;
        lines_are = filled_more [] LineOfBlock 0 lines s s line (omega arith) (omega (arith, t.long)) t.lines_are e;
      }

  shown : (lines : List (List ℕ)) (s : ℕ) → s < n → Shows m (block_in grid s) (get_or lines s []) → line_at m lines s ≡ interface_at (system_in n m grid) s
  unfolding interface_at interface_from system_in subsystem_in period_at budget_at held_at
  shown lines s h e =
      interface_is m lines s (resource_holding (subsystem_in m (block_in grid s))) e.period_is e.budget_is e.held_is ∙
      ap (interface_from m) (sym (subsystem_of_grid n m grid s h))

  pub lines_are_all : (lines : List (List ℕ)) (s : ℕ) → s ≡ n → LinesTo lines s → interfaces_in n m lines ≡ interfaces_from (system_in n m grid)
  unfolding interfaces_from
  lines_are_all lines s e t =
      interfaces_are n m lines (interface_at (system_in n m grid)) (λ r h. shown lines r h (filled_at [] LineOfBlock 0 lines s r r (omega arith) t.lines_are (rw e h))) ∙
      rw (count_of_grid n m grid, resources_of_grid n m grid) refl

-- What the rules left of the whole holds of a block, and what rule 5 left of it.
module _ (n m : ℕ) (grid : List (List (List ℕ))) (s : ℕ) (h : s < n) where
  pub sound_slot : SoundSystem (system_in n m grid) → SoundSlot (block_in grid s) m
  unfolding system_in
  sound_slot sound =
      record {
        sound = rw (← subsystem_of_grid n m grid s h) (sound.subsystem s (rw (count_of_grid n m grid) h));
        resources_most = sound.resources_most;
      }

  pub held_slot : (holdings : List (List ℕ)) → HeldIn (system_in n m grid) holdings → get_or holdings s [] ≡ padded (resource_holding (subsystem_in m (block_in grid s))) 0 most m
  held_slot holdings e =
      rw e (get_d_padded (holdings_at (system_in n m grid)) (replicate most 0) [] most (subsystem_count (system_in n m grid)) s (rw (count_of_grid n m grid) h)) ∙
      sym (held_of_block n m grid s h)

pub few_subsystems : (n m : ℕ) (grid : List (List (List ℕ))) → SoundSystem (system_in n m grid) → (n ≤ most) × (m ≤ most)
unfolding system_in
few_subsystems n m grid sound = (rw (← count_of_grid n m grid) sound.subsystems_most, sound.resources_most)

-- Lines that mean the interfaces of a sound system are sound.
pub sound_lines : (n m : ℕ) (lines : List (List ℕ)) (sys : System) → interfaces_in n m lines ≡ interfaces_from sys → SoundSystem sys → Sound (interfaces_in n m lines)
sound_lines n m lines sys e sound = rw e (interfaces_sound sys sound)
