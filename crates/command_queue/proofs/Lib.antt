pub mod BoardLaws
pub mod QueueLaws
