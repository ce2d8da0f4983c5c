-- Steps 3 and 5 over what one subsystem means, demand 3's condition, and what the functions take for granted.
pub mod Blocking
pub mod Passing
pub mod SomeWindow
pub mod Ready
