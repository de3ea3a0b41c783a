pub mod DrawLemmas
pub mod PieceLemmas
mod Examples
