pub mod Chunks
pub mod Facts
pub mod Filled
pub mod Parts
pub mod Picked
