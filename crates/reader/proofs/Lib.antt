-- Laws of the reader's steps, of the grid that was read and of the table that is taken out of it.
pub mod BlockLaws
pub mod ReadTasks
pub mod ReadSubsystems
pub mod ReadHeader
pub mod TakenLaws
pub mod WholeGrids
