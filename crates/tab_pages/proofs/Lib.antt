pub mod PageLaws
pub mod OverwriteLaws
pub mod PartLaws
pub mod JoinLaws
pub mod CountLaws
pub mod RangeLaws
pub mod PositionLaws
mod WorkedParts
mod WorkedPrunings
