-- The interfaces of a system, what a subsystem's block and line hold, and its rows.
pub mod Interfaces
pub mod Slots
pub mod Rows
