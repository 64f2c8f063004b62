pub mod BoardRule
pub mod Leftovers
pub mod Passes
pub mod QueueRule
pub mod Seats
