pub mod TextLemmas
pub mod ScriptLemmas
pub mod InputLemmas
pub mod NumberLemmas
pub mod PrintLemmas
pub mod AnswerLemmas
pub mod GeneratedLemmas
