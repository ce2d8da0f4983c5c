-- Laws of the end of one job, and exactly where there is one.
pub mod JobsLaws
pub mod JobsExactly
