-- The limits, the table of zeros, and what a table means.
pub mod Limits
pub mod Zeros
pub mod Meaning
pub mod Parts
pub mod Grid
