pub mod Columns
pub mod Values
pub mod QueryPlan
pub mod Laws
pub mod ItemValues
pub mod Forms
