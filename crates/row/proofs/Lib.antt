-- Laws of rows, and what a row's figures mean.
pub mod RowLaws
pub mod LedLaws
pub mod RowMeaning
