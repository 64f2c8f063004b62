pub mod Lines
pub mod Faults
pub mod Numbers
pub mod Verbs
pub mod Reading
pub mod GivenFields
pub mod Ranges
pub mod Generated
