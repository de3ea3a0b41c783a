pub mod NameLemmas
pub mod CellLemmas
pub mod RowLemmas
pub mod TableLemmas
pub mod EffectLemmas
