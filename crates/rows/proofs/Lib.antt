-- Laws of interfaces taken from a table, and of filling in rows.
pub mod InterfaceLaws
pub mod SoundLaws
pub mod RowsLaws
