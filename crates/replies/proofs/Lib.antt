pub mod Appending
pub mod Replies
