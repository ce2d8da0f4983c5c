-- Laws of the definitions in specs/, by subject.
pub mod First
pub mod Over
pub mod Largest
pub mod UpTo
pub mod Turn
pub mod Filled
pub mod Put
pub mod Raised
