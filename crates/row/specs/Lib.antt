-- The row of a subsystem.
pub mod Row
