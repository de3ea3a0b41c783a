pub mod EarlierLemmas
pub mod ScheduleLemmas
