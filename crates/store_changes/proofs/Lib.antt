pub mod SourceLemmas
pub mod NamedLemmas
pub mod FlagLemmas
pub mod DefineLemmas
pub mod InsertLemmas
pub mod RewriteLemmas
pub mod WriteLemmas
