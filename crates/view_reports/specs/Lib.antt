pub mod ObjectTexts
pub mod PageValue
pub mod RecoveredLines
pub mod RecoveredValue
pub use Rattle.report_lines.specs.Reports
