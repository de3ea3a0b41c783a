pub mod BatTypes
mod Examples
pub mod PlaceLemmas
