-- A search that goes on from an earlier one: what it starts with and what it finds.
pub mod After
