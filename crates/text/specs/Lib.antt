-- The text for any file, and what the buffer must hold.
pub mod Text
