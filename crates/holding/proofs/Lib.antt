-- Laws of the definitions in specs/, by subject.
pub mod HoldingLaws
pub mod TaskwiseLaws
