-- What the reader leaves in a grid, and the table that is taken out of one.
pub mod Reader
pub mod Taken
