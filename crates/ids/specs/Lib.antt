pub mod Leader
pub mod Refusal
pub mod Limits
