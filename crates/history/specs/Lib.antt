pub mod Table
pub mod History
pub mod Invariant
pub mod Made
pub mod Capacity
