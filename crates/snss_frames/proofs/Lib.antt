pub mod FrameLaws
pub mod ReadingLaws
pub mod HeaderLaws
pub mod FeedLaws
pub mod ChunkingLaws
