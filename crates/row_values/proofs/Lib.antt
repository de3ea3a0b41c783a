pub mod ValueLemmas
pub mod ListLemmas
