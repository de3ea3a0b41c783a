pub mod ListLemmas
pub mod KeptLemmas
pub mod GroupLemmas
pub mod AnswerLemmas
