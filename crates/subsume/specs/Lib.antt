pub mod Cutting
pub mod Index
pub mod Greedy
