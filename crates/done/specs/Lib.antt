-- Jobs that end when they are done.
pub mod Done
