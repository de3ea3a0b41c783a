pub mod ChunkLemmas
pub mod PairLemmas
pub mod RunLemmas
