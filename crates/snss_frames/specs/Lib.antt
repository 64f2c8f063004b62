pub mod Header
pub mod Frame
pub mod Reading
pub mod Feed
pub mod FeedLending
pub mod Chunking
