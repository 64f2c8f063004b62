pub mod FillLaws
pub mod ReaderLaws
