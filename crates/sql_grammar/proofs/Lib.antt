mod Examples
pub mod NestingLemmas
