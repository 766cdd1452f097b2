pub mod Documents
pub mod Asked
pub mod Statuses
pub mod Drafts
