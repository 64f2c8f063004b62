mod Calls
pub mod CellLaws
pub mod ItemLaws
pub mod PickleLaws
pub mod UnitLaws
mod Room
mod WorkedPayloads
