-- Ranges of numbers, and lists made from them.
pub mod Range
