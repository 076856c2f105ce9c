pub mod Resends
pub mod Acks
pub mod Replies
