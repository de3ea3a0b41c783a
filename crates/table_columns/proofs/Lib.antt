pub mod RowLemmas
pub mod StampLemmas
pub mod ColumnLemmas
pub mod GrownLemmas
pub mod ChangedLemmas
pub mod MadeLemmas
