pub mod Blocks
pub mod Findings
pub mod Kept
pub mod Lists
pub mod Orders
pub mod Sameness
pub mod Uniques
