pub mod Meaning
pub mod Output
pub mod Runs
pub mod SamePlan
pub mod Slow
