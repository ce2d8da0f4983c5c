-- Laws of steps 3 and 5, by subject.
pub mod BlockingLaws
pub mod PassingLaws
pub mod TaskLaws
pub mod FailingLaws
pub mod ReadyLaws
pub mod Demand3
