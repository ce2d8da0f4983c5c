-- Outer ceilings and subsystem blocking (steps 1 and 6; source 002, equations 3 and 6). Indices count from 0; document 01
-- counts from 1. Assumes nothing.
use Rattle.std.specs.Prelude.{ℕ, ◌-◌, Bool, cond, leb, ltb}
use Rattle.std.proofs.Math.Option.{Option, none, some}
use Rattle.lists.specs.Range.{largest_to, first_such}
use Rattle.outer.specs.Interfaces.{InterfacesM}
use Rattle.outer.specs.Parts.{count, holding_of}

-- The number that is there, or else another.
abbrev pub number_or : ℕ → Option ℕ → ℕ
number_or d (some x) = x
number_or d none = d

-- Whether subsystem s accesses resource l: it has a holding time for it.
unfoldable pub accesses : InterfacesM → ℕ → ℕ → Bool
accesses g l s = ltb 0 (holding_of g s l)

-- Step 1. RC(l): the lowest subsystem index with an access to l, or the last index where there is none.
unfoldable pub outer_ceiling : InterfacesM → ℕ → ℕ
outer_ceiling g l = number_or (count g - 1) (first_such (accesses g l) (count g) 0)

-- X(t, l) where RC(l) ≤ s, else 0.
unfoldable pub reaching : InterfacesM → ℕ → ℕ → ℕ → ℕ
reaching g s t l = cond (leb (outer_ceiling g l) s) (holding_of g t l) 0

-- The largest of these over the resources, where t > s, else 0.
unfoldable pub blocking_by : InterfacesM → ℕ → ℕ → ℕ
blocking_by g s t = cond (ltb s t) (largest_to (reaching g s t) g.resources) 0

-- Step 6. B(s): the largest X(t, l) with t > s and RC(l) ≤ s, 0 where there is none. (An X(t, l) of 0 adds nothing.)
unfoldable pub blocking : InterfacesM → ℕ → ℕ
blocking g s = largest_to (blocking_by g s) (count g)
