pub mod FoundLemmas
pub mod SmallLemmas
pub mod ItemLemmas
pub mod ExampleTrees
mod ExampleQueries
mod ExampleChanges
mod ExampleRefusals
mod ExampleNulls
mod ExampleColumns
pub mod RefusedLemmas
