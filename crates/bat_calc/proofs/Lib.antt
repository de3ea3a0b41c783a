pub mod OneLemmas
pub mod RowLemmas
