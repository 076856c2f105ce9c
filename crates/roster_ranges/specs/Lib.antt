pub mod Range
pub mod Canon
