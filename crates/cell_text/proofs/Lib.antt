pub mod DayExamples
pub mod DayLemmas
pub mod TextExamples
pub mod TextLemmas
