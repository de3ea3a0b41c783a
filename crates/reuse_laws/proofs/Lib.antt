pub mod Bridge
pub mod Within
pub mod Merge
pub mod Across
pub mod Reused
pub mod ExampleReuse
pub mod Appends
pub mod Calculated
mod ExampleGrown
