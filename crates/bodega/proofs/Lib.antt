pub mod Choices
pub mod Computes
pub mod Taken
pub mod Examples
pub mod Determined
