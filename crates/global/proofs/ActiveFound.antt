-- What the search for the active period answers is the active period, or none where there is none. Assumes nothing.
use Prim.Native.Nat.{ℕ, ◌+◌}
use native.Mathlib.Omega.{arith}
use mathlib.Core.Path.{◌≡◌}
use mathlib.Core.List.{List}
use mathlib.Core.Option.{none, some}
use Rattle.std.specs.Prelude.{Option, Some, None, MatchOption}
use Rattle.table.specs.Limits.{horizon}
use Rattle.search.specs.After.{FoundOr}
use Rattle.search.proofs.AnswerLaws.{some_found, none_found}
use Rattle.job.specs.View.{View}
use Rattle.job.specs.Ends.{active_period}
use Rattle.job.specs.Sound.{SoundView}
use Rattle.job.proofs.WaitLaws.{active_found}

pub active_answer : (v : View) → SoundView v → {after : List ℕ} (found : Option ℕ) → FoundOr v.periods v.costs after (v.place + 1) v.blocking horizon found → MatchOption found (active_period v ≡ none) (λ active. active_period v ≡ some active)
active_answer v sv None f = (active_found v sv (none_found f)).beyond (omega arith)
active_answer v sv (Some active) f = (active_found v sv (some_found f)).at f.within
