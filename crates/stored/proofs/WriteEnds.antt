-- The writer's three ends: refused by rule 1 alone, refused for want of room, or written. Assumes nothing.
use Prim.Native.Nat.{ℕ, ◌≤◌, ◌<◌}
use borrow.Author.Tests.{lt-ltb, le-ltb}
use mathlib.Core.Path.{◌≡◌, refl, sym, ap, ◌∙◌}
use mathlib.Core.List.{List}
use lib.ListN.{length}
use Rattle.std.specs.Prelude.{Err}
use Rattle.table.specs.Meaning.{System}
use Rattle.rules.specs.Judged.{Judged, admitted, refused}
use Rattle.rules.specs.declared.Rule.{Rule}
use Rattle.rules.specs.declared.Place.{Place}
use Rattle.rules.specs.Rules.{counts_judged}
use Rattle.stored.specs.declared.Unwritten.TheVariants.{Uncounted, NoRoom}
use Rattle.stored.specs.Answers.{stands}
use Rattle.stored.specs.File.{file_of}
use Rattle.stored.specs.Write.{IsPut, write_of, buffer_after}

module _ (sys : System) (buf : List ℕ) (j : Judged) (judged : j ≡ counts_judged sys) where
  -- A count out of range is refused at its place.
  pub uncounted : (k : Rule) (p : Place) → j ≡ refused k p → (Err (Uncounted p) ≡ write_of sys (length buf)) × (buf ≡ buffer_after sys buf)
  unfolding write_of buffer_after
  uncounted k p e = let q : counts_judged sys ≡ refused k p = sym judged ∙ e in (rw q refl, rw q refl)

  module _ (counted : j ≡ admitted) where
    -- A buffer that is shorter than the file is refused next.
    pub no_room : length buf < length (file_of sys) → (Err NoRoom ≡ write_of sys (length buf)) × (buf ≡ buffer_after sys buf)
    unfolding write_of buffer_after
    no_room h =
        let q : counts_judged sys ≡ admitted = sym judged ∙ counted in
        let l = lt-ltb (length buf) (length (file_of sys)) h in
        (rw (q, l) refl, rw (q, l) refl)

    -- Otherwise the file is put.
    pub file_put : (after : List ℕ) (n : ℕ) → length (file_of sys) ≤ length buf → IsPut (file_of sys) buf after n → (stands n ≡ write_of sys (length buf)) × (after ≡ buffer_after sys buf)
    unfolding write_of buffer_after
    file_put after n h put =
        let q : counts_judged sys ≡ admitted = sym judged ∙ counted in
        let l = le-ltb (length buf) (length (file_of sys)) h in
        (rw (q, l) (ap stands put.counted), rw (q, l) put.left)
