-- Laws of the definitions in specs/, by subject.
pub mod FigureLaws
pub mod JudgementLaws
pub mod ReadLaws
pub mod CountLaws
