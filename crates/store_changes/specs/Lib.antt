pub mod Schemas
pub mod Outcomes
pub mod Work
pub mod Rewrites
