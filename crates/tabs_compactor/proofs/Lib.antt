pub mod LastEntryLaws
mod WorkedCompactions
