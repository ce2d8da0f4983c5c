-- Laws of what callers get.
pub mod LentLaws
pub mod CallerLaws
pub mod OffsetLaws
