pub mod ReportLaws
pub mod WritingLaws
