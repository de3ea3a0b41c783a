pub mod Laws
pub mod Live
pub mod Optimisers
pub mod Parts
pub mod Passes
