pub mod Shown
pub use Rattle.pickle_cells.specs.CellReading
