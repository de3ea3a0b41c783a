pub mod Examples
pub mod SlowLemmas
