-- The lines that `check` prints, their room and their shape, and what the buffer must hold.
pub mod Lines
pub mod Room
pub mod Shape
pub mod Wrote
