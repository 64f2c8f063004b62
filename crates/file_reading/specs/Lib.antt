pub mod Filling
pub mod Heads
pub mod FrameReading
pub mod ReaderLending
