mod AnswerLaws
pub mod ListingLaws
