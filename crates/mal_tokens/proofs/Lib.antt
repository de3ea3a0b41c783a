pub mod QuotedLemmas
pub mod TokensRead
