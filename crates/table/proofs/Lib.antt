-- Laws of what a table means, and of grids.
pub mod Parts
pub mod ZerosLaws
pub mod GridLaws
