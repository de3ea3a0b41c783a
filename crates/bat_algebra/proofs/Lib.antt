pub mod FlagLemmas
pub mod MarkLemmas
pub mod PairLemmas
pub mod PlaceLemmas
pub mod MergeLemmas
