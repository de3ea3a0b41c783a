pub mod FactLemmas
pub mod FilledLemmas
pub mod PartFacts
pub mod PartLemmas
pub mod PickLemmas
