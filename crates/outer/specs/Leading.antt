-- Which resources decide a job's response (an aid of the code: `row-led`, in crate `row`, says that rows are the same with and
-- without it). Assumes nothing.
use Rattle.std.specs.Prelude.{ℕ, Bool, true, false, cond, List, eqb, ltb, get_or}
use Rattle.std.proofs.Math.Option.{Option, none, some}
use Rattle.lists.specs.Range.{first_such}

-- Resource j decides instead of l: it has the same ceiling, and is held longer, or as long and is lower.
unfoldable pub beats : ℕ → ℕ → ℕ → ℕ → ℕ → ℕ → Bool
beats ceilingJ heldJ j ceilingL heldL l =
    cond (eqb ceilingJ ceilingL) (cond (ltb heldL heldJ) true (cond (eqb heldL heldJ) (ltb j l) false)) false

-- The same over holding times h and ceilings c.
unfoldable pub beaten_by : (ℕ → ℕ) → (ℕ → ℕ) → ℕ → ℕ → Bool
beaten_by h c l j = beats (c j) (h j) j (c l) (h l) l

-- x where nothing beats, else 0.
abbrev pub unbeaten : ℕ → Option ℕ → ℕ
unbeaten x none = x
unbeaten x (some j) = 0

-- The holding time of resource l where it decides among m resources, else 0.
unfoldable pub led : (ℕ → ℕ) → (ℕ → ℕ) → ℕ → ℕ → ℕ
led h c m l = unbeaten (h l) (first_such (beaten_by h c l) m 0)

unfoldable pub ceiling_at : List ℕ → ℕ → ℕ
ceiling_at ceilings l = get_or ceilings l 0
