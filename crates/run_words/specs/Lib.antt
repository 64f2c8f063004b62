pub mod Options
pub mod Words
pub mod Outcome
pub use Rattle.script_lines.specs.Faults
