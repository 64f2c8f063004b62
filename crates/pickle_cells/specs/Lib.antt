pub mod Cell
pub mod CellReading
pub mod Layout
pub mod PickleLayout
pub mod Written
