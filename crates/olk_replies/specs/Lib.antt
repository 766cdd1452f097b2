pub mod Replies
pub mod Seen
