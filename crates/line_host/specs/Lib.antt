pub mod Line
pub mod Host
pub mod Follows
