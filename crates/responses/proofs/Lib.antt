-- Laws of the jobs of an active period, one after the other, and of those whose end need not be looked for.
pub mod JobsLaws
pub mod SkipLaws
