-- `outer::ceilings::outer_ceiling` meets its contract: what `find` answers is the first subsystem with an access. Assumes nothing.
use Rattle.std.proofs.Common.{◌≤◌, ◌<◌, arith, rules, tests}
use Rattle.std.proofs.lemmas.Iterator.{first_from_Range}
use mathlib.Core.Path.{◌∙◌}
use Rattle.outer.specs.Interfaces.{held_at}
use Rattle.outer.proofs.CeilingLaws.{ceiling_found}
use Rattle.outer.proofs.ceilings.outer_ceiling.Goals as goal

pub returns : goal.returns
returns c =
    c.unwrap_or.ensures ∙ ceiling_found c.args.shown.now.lines.now c.args.shown.now.n c.args.l c.find.result
    (first_from_Range _ _ _ _ (λ i. 0 < held_at c.args.shown.now.lines.now i c.args.l) (λ i. held_at c.args.shown.now.lines.now i c.args.l ≤ 0) c.find.ensures.ran
    (λ x q k. grind (arith, tests))
    (λ x q k. (search rules, grind (arith, tests))))
