-- What a row of a subsystem has to do with what the subsystem sees.
pub mod SeenLaws
pub mod ActiveFound
