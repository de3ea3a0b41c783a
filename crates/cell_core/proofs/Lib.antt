pub mod CutExamples
pub mod KeyExamples
pub mod ListLemmas
pub mod OperatorExamples
pub mod SortedLemmas
pub mod TypedLemmas
