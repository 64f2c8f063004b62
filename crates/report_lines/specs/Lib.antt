pub mod Reports
pub use Rattle.session_disk.specs.Causes
