-- A session as a machine: the commands that restate its state, its kind, and its laws.
pub mod Compaction
pub mod Covering
pub mod SessionKind
pub mod Laws
