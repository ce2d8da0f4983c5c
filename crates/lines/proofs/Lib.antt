-- Laws of writing into a buffer, by a pen too, and of the decimal form.
pub mod WrittenLaws
pub mod PutsLaws
pub mod DecimalLaws
pub mod NumberLaws
