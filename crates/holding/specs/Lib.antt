-- Inner ceilings and holding times (steps 1 and 2), what of them the code works out at once, and what it takes for granted.
pub mod Holding
pub mod Slots
pub mod Held
