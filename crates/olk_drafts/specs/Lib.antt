pub mod Drafts
pub mod Keywords
pub mod Translated
pub mod Sources
pub mod References
pub mod Rows_drafts
pub mod Rows_names
pub mod Rows_paths
