-- Interfaces and their parts; steps 1 and 2 as far as interfaces show them; step 6; what the rows share.
pub mod Interfaces
pub mod Parts
pub mod Blocking
pub mod Common
pub mod Blocked
pub mod Leading
pub mod Sound
pub mod Shown
