pub mod FitLaws
pub mod ChangeLaws
pub mod OverwriteLaws
mod WorkedSteps
