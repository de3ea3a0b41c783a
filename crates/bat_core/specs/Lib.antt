pub mod Bats
pub mod Chunks
pub mod Objects
