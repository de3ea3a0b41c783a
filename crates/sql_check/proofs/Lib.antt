pub mod FirstLemmas
pub mod QueryLemmas
pub mod ChangeLemmas
pub mod SourceLemmas
