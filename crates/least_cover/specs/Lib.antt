pub mod Covers
pub mod Best
pub mod Chosen
