-- What is proved of closed entries as a machine. It stands among the definitions since the machine itself says it.
pub mod TabRuns
pub mod WindowRuns
pub mod FoldsBack
pub mod EntryRuns
pub mod Counts
pub mod Plain
pub mod TabsLaws
