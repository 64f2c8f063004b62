pub mod FieldWords
pub mod FaultWords
pub mod PageWords
pub mod Words
pub mod Walk
pub use Rattle.payload_rows.specs.Faults
pub use Rattle.shown_texts.specs.Shown
