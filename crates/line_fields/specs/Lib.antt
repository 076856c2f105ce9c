pub mod Split
pub mod Number
pub mod Reads
