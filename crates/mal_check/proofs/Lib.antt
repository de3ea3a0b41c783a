pub mod KindLemmas
pub mod ListTests
pub mod PointLemmas
pub mod RunLemmas
pub mod SomeLemmas
pub mod TypedResults
