-- The end of one job, for whoever asks.
pub mod Jobs
