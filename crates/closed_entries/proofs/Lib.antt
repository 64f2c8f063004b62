pub mod LastItemLaws
pub mod StateLaws
pub mod StepLaws
mod WorkedSteps
