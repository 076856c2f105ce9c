pub mod Event
pub mod Ways
