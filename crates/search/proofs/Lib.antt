-- Laws of a search over loads, by its steps; whoever searches cites ClimbLaws.
pub mod CatchLaws
pub mod ClimbLaws
pub mod AdvanceLaws
pub mod PassLaws
pub mod AnswerLaws
