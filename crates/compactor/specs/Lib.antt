pub mod session
