pub mod Step
pub mod Parts
pub use Rattle.window_state.specs.States
pub use Rattle.window_state.specs.Changes
pub use Rattle.tab_pages.specs.PageLists
pub use Rattle.session_commands.specs.Table
