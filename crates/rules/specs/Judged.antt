-- The judge's answers as specifications write them: a table is admitted, or refused by a rule at a place. Assumes nothing.
use Rattle.std.specs.Prelude.{Result, Ok, Err}
use Rattle.rules.specs.declared.Rule.{Rule}
use Rattle.rules.specs.declared.Place.{Place}
use Rattle.rules.specs.declared.Broken.{Broken}

abbrev pub Judged : Type 0
Judged = Result (Unit {0}) Broken

abbrev pub admitted : Judged
admitted = Ok tt

abbrev pub refused : Rule → Place → Judged
refused k p = Err (record { rule = k; place = p })
