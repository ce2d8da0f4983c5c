-- Laws of writing one thing behind another, and of the lines.
pub mod WroteLaws
pub mod LineLaws
pub mod ShapeLaws
pub mod RowShape
pub mod Examples
