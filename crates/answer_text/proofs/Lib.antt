pub mod ChangeLemmas
pub mod Examples
pub mod RecordLemmas
