pub mod RunLemmas
pub mod ByteLemmas
pub mod MarkLemmas
pub mod ScanLemmas
pub mod TextLemmas
