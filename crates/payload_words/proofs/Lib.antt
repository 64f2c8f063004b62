pub mod AppendLaws
pub mod RowWords
mod WorkedWords
