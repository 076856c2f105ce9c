pub mod Choice
pub mod Counted
pub mod Part
pub mod Tab
pub mod Writes
pub mod Text
