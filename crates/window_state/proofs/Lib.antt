pub mod ExtraLaws
pub mod RowLaws
pub mod FindLaws
pub mod EditLaws
pub mod OverwriteLaws
pub mod OnlyLaws
pub mod OrderLaws
pub mod ChangeLaws
pub mod StateLaws
pub mod IdLaws
pub mod SortingLaws
pub mod PairLaws
pub mod MemberLaws
pub mod RangeLaws
pub mod StateEditLaws
pub mod ShownLaws
pub mod WindowRange
pub mod ViewLaws
mod WorkedChanges
mod WorkedViews
