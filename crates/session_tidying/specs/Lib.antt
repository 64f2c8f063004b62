pub mod ShownTabs
pub mod Gaps
pub mod Active
