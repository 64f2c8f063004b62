pub mod Crashes
pub mod Leaves
pub mod Resting
mod ChangeLog
mod CrashLoop
mod DiskFiles
mod Finding
mod Meaning
mod Prefixes
mod ReadingLaws
mod WritingLaws
