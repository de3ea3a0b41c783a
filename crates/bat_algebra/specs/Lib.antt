pub mod Flags
pub mod Heads
pub mod Places
pub mod Ascending
pub mod Spans
