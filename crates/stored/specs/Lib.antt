-- Numbers as bytes, fields, the answers, a decoded line, the file of a system, what a read gives and what a write leaves.
pub mod Numbers
pub mod Field
pub mod Answers
pub mod Judge
pub mod Decode
pub mod HeadLine
pub mod Read
pub mod File
pub mod Write
pub mod Held
