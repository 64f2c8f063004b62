pub mod Compaction
pub mod Tidying
pub mod TabsKind
pub mod Laws
