pub mod FittingLaws
pub mod NavigationLaws
pub mod GroupLaws
pub mod PairLaws
pub mod KeptLaws
