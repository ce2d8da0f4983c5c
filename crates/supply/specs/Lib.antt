-- What a subsystem is sure to be given: the formula, the ways of handing out that it speaks about, the moment at which it
-- reaches a number of ticks, and the published bound.
pub mod Supply
pub mod Ways
pub mod Moment
pub mod Published
