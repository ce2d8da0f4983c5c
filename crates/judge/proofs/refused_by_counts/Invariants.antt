-- `judge::refused_by_counts` meets its contract. Assumes nothing.
use Rattle.table.specs.Meaning.{meaning}
use Rattle.rules.specs.declared.Rule.TheVariants.{Counts}
use Rattle.rules.proofs.JudgingLaws.{OffendersFrom}
use Rattle.judge.proofs.refused_by_counts.Given as goal

abbrev pub invariant-loop-s : goal.invariant-loop-s
invariant-loop-s l = OffendersFrom (meaning l.t) Counts l.t.count l.s
