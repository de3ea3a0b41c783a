pub mod HeldLemmas
pub mod ShapeLemmas
pub mod LeftLemmas
mod Examples
