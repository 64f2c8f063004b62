pub mod RowLaws
pub mod TableLaws
pub mod MarkerLaws
mod WorkedPayloads
