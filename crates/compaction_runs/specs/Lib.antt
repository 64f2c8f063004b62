pub mod FieldCommands
pub mod Runs
