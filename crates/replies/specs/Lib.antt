pub mod Replies
pub mod Readable
