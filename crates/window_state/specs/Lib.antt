pub mod Limits
pub mod RowLists
pub mod Keys
pub mod KeyLaws
pub mod Changes
pub mod Fits
pub mod Ranges
pub mod States
pub mod Members
pub mod Views
pub mod TabLists
pub mod Shown
pub use Rattle.tab_pages.specs.PageLists
pub use Rattle.tab_pages.specs.Positions
pub use Rattle.tab_pages.specs.Ranges as PageRanges
pub use Rattle.tab_pages.specs.Fits as TextFits
