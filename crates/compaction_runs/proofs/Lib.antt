pub mod RunLaws
pub mod CommandLaws
pub mod Counts
pub mod Appended
pub mod Pieces
pub mod Weights
