-- `printing::print_text_in` meets its contract. Assumes nothing.
use mathlib.Core.Path.{◌≡◌, sym, subst, ◌∙◌}
use mathlib.Core.List.{List}
use Prim.Native.Nat.{ℕ}
use lib.ListN.{length}
use lib.Seq.{length-take-le}
use Rattle.text.specs.Text.{text_of}
use native.Mathlib.Omega.{arith}
use Rattle.std.specs.Prelude.{OnOk, Some, None}
use Rattle.std.specs.Io.KnownBytes.{Appends}
use Rattle.printing.proofs.Within.{printed_within, short_has_no_text, text_is_answered, answered_is_text}
use Rattle.printing.proofs.print_text_in.Goals as goal

pub slice_bounds-write_all-end : goal.slice_bounds-write_all-end
slice_bounds-write_all-end g c =
    omega (
      arith,
      printed_within _ _ _ _ c.check_text_in.ensures.printed.answered c.in-Some.is,
      c.check_text_in.auto.buf,
    )

pub slice_bounds-write_all-end-in-Some : goal.slice_bounds-write_all-end-in-Some
slice_bounds-write_all-end-in-Some g c =
    sym
    (length-take-le _ _
    (omega (
      arith,
      printed_within _ _ _ _ c.check_text_in.ensures.printed.answered c.in-Some.is,
      c.check_text_in.auto.buf,
    )))

pub returns-in-Some-clause-written : goal.returns-in-Some-clause-written
returns-in-Some-clause-written g c =
    λ room.
    subst
    (λ (bytes : List ℕ). OnOk c.write_all.result (Appends (g.W.Write.contents c.args.out.now) (g.W.Write.contents c.write_all.new.self) bytes))
    (answered_is_text _ _ _ _ c.check_text_in.ensures.printed room c.in-Some.len c.in-Some.is)
    c.write_all.ensures.bytes

pub returns-in-None-clause-written : goal.returns-in-None-clause-written
returns-in-None-clause-written g c =
    λ room.
    let answered : None ≡ Some (length (text_of c.args.file.now)) = sym c.in-None.is ∙ text_is_answered _ _ _ _ c.check_text_in.ensures.printed room in
    absurd cc

pub returns-in-Some-clause-unwritten : goal.returns-in-Some-clause-unwritten
returns-in-Some-clause-unwritten g c =
    λ short. absurd (short_has_no_text _ _ _ _ _ c.check_text_in.ensures.printed short c.in-Some.is)
