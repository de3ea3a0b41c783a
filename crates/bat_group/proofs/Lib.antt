pub mod GroupLemmas
pub mod NumberLemmas
pub mod TotalLemmas
pub mod FirstLemmas
pub mod PartLemmas
pub mod KeyLemmas
