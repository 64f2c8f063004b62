pub mod Stamps
pub mod Words
pub mod Outcome
pub use Rattle.decimals.specs.Decimal
