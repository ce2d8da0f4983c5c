-- Laws that whoever works with least solutions cites.
pub mod Up
pub mod Demand
pub mod Search
pub mod LeastLaws
pub mod ShareLaws
