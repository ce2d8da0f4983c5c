-- Laws of acceptance and of the report.
pub mod AcceptedLaws
pub mod ReportLaws
