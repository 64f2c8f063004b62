pub mod FileReadingLaws
pub mod WalkLaws
mod KindLaws
mod TallyLaws
mod ReportLaws
mod ShowLaws
mod WorkedReports
