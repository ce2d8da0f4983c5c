-- Laws of the text: its lines one behind the other, its cases, its shape, and what a caller may rely on.
pub mod RowsLaws
pub mod ReportLaws
pub mod TextLaws
pub mod TextShape
pub mod BufferLaws
