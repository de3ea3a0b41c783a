pub mod NamedLemmas
pub mod ColumnLemmas
pub mod InsertLemmas
pub mod TouchLemmas
pub mod GivenLemmas
pub mod StepLemmas
pub mod LogLemmas
pub mod WithinLemmas
