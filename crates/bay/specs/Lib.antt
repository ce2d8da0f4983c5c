-- What each function returns, and what a lent buffer holds at the end.
pub mod Lent
