-- Division rounded up; loads and what they ask for; the least solution over loads and a constant part; what a search rests on.
pub mod Up
pub mod Demand
pub mod Share
pub mod Least
pub mod Search
