pub mod PageLists
pub mod PartLists
pub mod Positions
pub mod Ranges
pub mod Fits
pub use Rattle.pickle_cells.specs.Cell
