-- The three demands, in their order, and the starred figures.
pub mod Tables
pub mod Demand1
pub mod Demand2
pub mod Demand3
pub mod Files
pub mod OneResult
pub mod Accessed
pub mod Figures
