-- That a text is within the buffer, and what a read leaves in a space.
pub mod Within
mod Joined
