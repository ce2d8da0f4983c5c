-- The judgement by rules 2 to 4 in one pass over the places: of two refusals the one by the lower rule counts, and the former
-- where both are by the same rule. Rule 5 comes behind them. Assumes nothing.
use Rattle.std.specs.Prelude.{ℕ, Bool, true, false, cond, ltb, eqb, Ok, Err}
use Rattle.std.proofs.Math.Option.{Option, none, some, map}
use Rattle.table.specs.Meaning.{TaskM, SubsystemM}
use Rattle.rules.specs.declared.Rule.{Rule}
use Rattle.rules.specs.declared.Rule.TheVariants.{Range, Order, Access}
use Rattle.rules.specs.declared.Place.{Place}
use Rattle.rules.specs.Judged.{Judged}
use Rattle.rules.specs.Refusal.{number_of}
use Rattle.rules.specs.Rules.{place, refused_at, unless_refused, subsystem_breaks, task_breaks, offender_in}

-- The first of rules 2 to 4, in their order, that found a place.
unfoldable pub in_order : (Rule → Option Place) → Judged
in_order found =
    unless_refused (refused_at Range (found Range))
    (unless_refused (refused_at Order (found Order)) (refused_at Access (found Access)))

-- Whether a judgement is by rule 2, the first of them.
abbrev pub is_first : Judged → Bool
is_first (Ok _) = false
is_first (Err r) = eqb (number_of r.rule) 2

-- Whether a judgement is a refusal.
abbrev pub is_refused : Judged → Bool
is_refused (Ok _) = false
is_refused (Err _) = true

-- Of two judgements the one by the lower rule; the former where both are by the same.
abbrev pub earlier : Judged → Judged → Judged
earlier found (Ok _) = found
earlier (Ok _) (Err r) = Err r
earlier (Err f) (Err r) = cond (ltb (number_of r.rule) (number_of f.rule)) (Err r) (Err f)

-- One place by itself, given what it breaks: the subsystem's own place, and a task's.
unfoldable pub judged_at : (Rule → Bool) → Place → Judged
judged_at breaks p = in_order (λ k. cond (breaks k) (some p) none)

unfoldable pub judged_own : ℕ → ℕ → SubsystemM → Judged
judged_own m s u = judged_at (λ k. subsystem_breaks m k u) (place s 0)

unfoldable pub judged_task : ℕ → Place → TaskM → Judged
judged_task m p t = judged_at (λ k. task_breaks m k t) p

-- One subsystem by itself: number s of the table.
unfoldable pub judged_subsystem : ℕ → ℕ → SubsystemM → Judged
judged_subsystem m s u = in_order (λ k. map (place s) (offender_in m k u))
