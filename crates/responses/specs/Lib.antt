-- What is known of the jobs while they are gone through.
pub mod Known
