pub mod QuotedLemmas
pub mod WordLists
mod Examples
