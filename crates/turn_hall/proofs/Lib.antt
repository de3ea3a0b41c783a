pub mod Lists
pub mod Views
pub mod Keeps
pub mod Lifecycle
pub mod Calls
