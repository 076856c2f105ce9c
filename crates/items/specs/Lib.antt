pub mod Item
pub mod Area
