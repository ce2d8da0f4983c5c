-- Acceptance and the report.
pub mod Report
