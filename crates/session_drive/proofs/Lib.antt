pub mod GeneratedLaws
pub mod CauseLaws
pub mod EndLaws
pub mod OutputLaws
pub mod RunLaws
pub mod LineLaws
pub mod PrintedLaws
pub mod TellingLaws
pub mod AttemptLaws
pub mod FirstRefusedLaws
pub mod VerdictLaws
pub mod DrivenLaws
mod WorkedVerdicts
