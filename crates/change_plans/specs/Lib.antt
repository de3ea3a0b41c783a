pub mod Hits
pub mod Decisions
pub mod Laws
