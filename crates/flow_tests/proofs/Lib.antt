pub mod ExamplePlan
pub mod NoneLemmas
pub mod OrderLemmas
pub mod SoundLemmas
pub mod TwoInts
