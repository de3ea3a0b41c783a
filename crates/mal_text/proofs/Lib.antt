pub mod ReaderLemmas
pub mod TermLemmas
pub mod BlockLemmas
pub mod PlaceLemmas
pub mod MalLaws
