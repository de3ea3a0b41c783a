pub mod Printable
pub mod CanonRules
pub mod Laws
pub mod PrintedReads
