pub mod LineLaws
pub mod FieldLaws
pub mod NumberLaws
pub mod ReadingLaws
pub mod UnitLaws
pub mod RangeLaws
pub mod GeneratorLaws
mod WorkedLines
