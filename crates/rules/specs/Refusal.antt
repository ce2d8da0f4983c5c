-- Document 01's number and place for each answer of the judge: the one definition that contracts and promises speak
-- through. Assumes nothing.
use Rattle.std.specs.Prelude.{ℕ, Ok, Err}
use Rattle.rules.specs.declared.Rule.{Rule}
use Rattle.rules.specs.declared.Rule.TheVariants.{Counts, Range, Order, Access, Overrun}
use Rattle.rules.specs.Judged.{Judged}

abbrev pub number_of : Rule → ℕ
number_of Counts = 1
number_of Range = 2
number_of Order = 3
number_of Access = 4
number_of Overrun = 5

-- A number from document 01's tables of refusals with its place, 0 at 0 0 where nothing is refused.
pub record Refusal : Type 0 where
  pub number : ℕ
  pub subsystem : ℕ
  pub task : ℕ

abbrev pub refusal : Judged → Refusal
refusal (Ok _) = record { number = 0; subsystem = 0; task = 0 }
refusal (Err r) = record { number = number_of r.rule; subsystem = r.place.subsystem; task = r.place.task }
