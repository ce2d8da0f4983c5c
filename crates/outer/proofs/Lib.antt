-- Laws of interfaces, of outer ceilings and blocking, and of the resources that decide.
pub mod Slots
pub mod CeilingLaws
pub mod CommonLaws
pub mod SharedLaws
pub mod BlockingLaws
pub mod LeadingLaws
pub mod EnteringLaws
