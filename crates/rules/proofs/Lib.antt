-- Laws of the definitions in specs/, by subject.
pub mod BreaksLaws
pub mod JudgingLaws
pub mod EarlierLaws
pub mod OrderLaws
pub mod Exactly
pub mod Sound
