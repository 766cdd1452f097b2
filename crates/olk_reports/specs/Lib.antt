pub mod Paths
pub mod Errors
pub mod Messages
pub mod Shown
pub mod Codes
pub mod Evaluations
pub mod Sizes
pub mod Entries
