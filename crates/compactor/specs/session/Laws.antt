-- What is proved of a session as a machine. It stands among the definitions since the machine itself says it.
pub mod AppendedRows
pub mod WindowRuns
pub mod TabRuns
pub mod FoldsBack
pub mod Counts
pub mod Plain
pub mod CoveringLaws
pub mod SessionLaws
