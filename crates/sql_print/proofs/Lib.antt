pub mod ListedLemmas
pub mod MapLemmas
mod Examples
