pub mod View
pub mod Begins
