-- `search::Asking::least_within` meets its contract: where the total comes down within reach, the search finds a solution. Assumes nothing.
use native.Mathlib.Omega.{arith}
use Rattle.search.proofs.ClimbLaws.{within_bound}
use Rattle.search.proofs.AnswerLaws.{none_found}
use Rattle.search.proofs.Asking.least_within.Goals as goal

pub unreachable-requires : goal.unreachable-requires
unreachable-requires c =
    let none = none_found (rw c.in_default.is at c.climb.ensures.found) in
    omega (arith, within_bound _ _ _ _ _ _ _ _ c.requires.after c.requires.comes_down (omega arith) none)
