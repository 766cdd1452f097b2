pub mod Paths
pub mod Errors
pub mod Evaluations
pub mod Entries
