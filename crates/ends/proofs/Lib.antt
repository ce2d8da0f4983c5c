-- What a subsystem is lent of what all rows share.
pub mod Lending
