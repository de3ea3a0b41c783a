pub mod Content
pub mod Touches
pub mod Changes
pub mod Kept
pub mod Headings
