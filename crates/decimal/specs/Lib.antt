pub mod Digits
pub mod Placed
