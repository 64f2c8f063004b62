pub mod ItemLaws
pub mod PuttingLaws
pub mod IssuingLaws
pub mod UnsaidLaws
pub mod TakenLaws
pub mod WrittenLaws
pub mod MetLaws
