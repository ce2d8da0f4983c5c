-- The rules, the answers, and the number and place of each.
pub mod Judged
pub mod Rules
pub mod Refusal
pub mod Admitted
pub mod Exactly
pub mod Slots
pub mod Earlier
